use Rattle.std.proofs.Common.{◌≡◌, ℕ, List, [], ◌∷◌, ◌++◌, map, take, ap, ◌∙◌, arith}
use Rattle.std.specs.Prelude.{codes}
use Rattle.std.specs.List.{concat}
use Rattle.std.specs.declared.alloc.Global.{Global}
use Rattle.std.specs.declared.vec.Vec.{Vec}
use Rattle.std.proofs.lemmas.List.{take_min}
use Rattle.hz_why_model.specs.Lists.{listed}
use Rattle.hz_explain.specs.Detailing.{texts_of, wanted_reported}
use Rattle.hz_explain.specs.Telling.{wording_in}
use Rattle.hz_reasons.specs.declared.plan.AutomatonUnit.{AutomatonUnit}
use Rattle.hz_explain.proofs.CutLaws.{texts_take}
use Rattle.hz_explain.proofs.Joining.{joined_three}
use Rattle.hz_explain.proofs.details.add_wants.Goals as goal

pub returns : goal.returns
returns c =
    let old : List ℕ = c.args.text.now.items in
    let patterns : List (Vec AutomatonUnit Global) = c.args.patterns.now in
    let text : Vec AutomatonUnit Global → List ℕ = λ pattern. wanted_reported (wording_in c.args.desc.now c.args.parts.now) pattern.items in
    let list : List (List ℕ) → List ℕ = listed 73 (codes " ") (codes "; ") in
    let shown : take c.min.result patterns ≡ take 80 patterns = ap (λ (n : ℕ). take n patterns) c.min.ensures ∙ take_min 80 patterns in
    joined_three old _ _ _ (codes "  wants") (list (texts_of c.deref.result.now)) (codes "\n") c.in_ok-add.ensures c.in_ok-add_listed.ensures c.in_ok-add-2.ensures
    ∙ ap (λ (t : List ℕ). old ++ concat (codes "  wants" ∷ t ∷ codes "\n" ∷ []))
    (ap list (ap texts_of c.deref.ensures.value ∙ (c.in_ok-texts.ensures ∙ ap (map text) shown)) ∙ texts_take text patterns 80 73 (codes " ") (codes "; ") (omega arith) (omega arith) (omega arith))
