use Rattle.std.proofs.Common.{◌∷◌, [], ◌∙◌, List, subst, ap}
use Rattle.std.proofs.lemmas.Result.{IfOk-weaker, IfErr-weaker}
use Rattle.hz_base_model.specs.Pairs.{Pair}
use Rattle.hz_altern.specs.Answers.{Refuses}
use Rattle.hz_altern.specs.Shapes.{pairs_of}
use Rattle.hz_altern.proofs.BesideLemmas.{listed_taken, whole}
use Rattle.hz_description_model.specs.Reservations.Automata.{UnitPlace}
use Rattle.hz_altern.proofs.listing.expanding.list_leaves.Goals as goal

pub returns-clause-ok : goal.returns-clause-ok
returns-clause-ok c = IfOk-weaker c.list_one.result _ _ (λ listing is taken are.
    is ∙ ap (λ (ps : List (Pair UnitPlace)). whole ps c.args.length ∷ []) (listed_taken c.args.known.now c.args.leaves.now (pairs_of c.in_ok-pairs.pairs.items) taken c.in_ok-pairs.ensures.ascending c.in_ok-pairs.ensures.same are)) c.list_one.ensures.ok

pub returns-clause-err : goal.returns-clause-err
returns-clause-err c = IfErr-weaker c.list_one.result _ _ (λ fault refusal taken are.
    subst (λ (ps : List (Pair UnitPlace)). Refuses c.args.most (whole ps c.args.length ∷ []) fault) (listed_taken c.args.known.now c.args.leaves.now (pairs_of c.in_ok-pairs.pairs.items) taken c.in_ok-pairs.ensures.ascending c.in_ok-pairs.ensures.same are) refusal) c.list_one.ensures.err
