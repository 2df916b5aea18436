use Rattle.std.proofs.Common.{◌≡◌, ◌<◌, List, [], ◌∷◌, ◌++◌, length, refl, sym, ap, subst, ◌∙◌, arith}
use Rattle.hz_reasons.specs.Holding.{AreHolders, last_of}
use Rattle.hz_reasons.specs.Plans.{choices_at, pairs_of, pairs_at}
use Rattle.hz_reasons.specs.declared.plan.Choice.{Choice}
use Rattle.hz_reasons.specs.declared.holders.Holder.{Holder}
use Rattle.std.proofs.lemmas.Bool.Decides.{nat_tests}
use Rattle.hz_pipeline_model.specs.Accepting.Events.{issue}
use Rattle.std.proofs.lemmas.Option.{slice_get_read}
use Rattle.hz_reasons.proofs.HoldingLaws.{no_length, holders_issue, holders_none, holder_of, nothing_of}
use Rattle.hz_reasons.proofs.Reading.{choices_read}
use Rattle.hz_reasons.proofs.holders.Holders.issue.Goals as goal

pub returns-then-is_empty-clause-holds : goal.returns-then-is_empty-clause-holds
returns-then-is_empty-clause-holds c = λ m t lines choices is count there are.
    let read : choices_at c.args.plan.now c.args.class ≡ c.index-choices.result.now.items = choices_read c.args.plan.now c.args.class c.index-choices.result.now c.index-choices.ensures (omega arith) in
    let low : c.args.number < length c.index-choices.result.now.items = subst (λ (cs : List Choice). c.args.number < length cs) read c.requires.number in
    let pairs : pairs_at (choices_at c.args.plan.now c.args.class) c.args.number ≡ c.index.result.now.pairs.items =
    ap (λ (cs : List Choice). pairs_at cs c.args.number) read ∙ ap pairs_of (slice_get_read c.index-choices.result.now.items (length c.index-choices.result.now.items) c.args.number c.index.result.now refl low c.index.ensures) in
    let none : length c.index.result.now.pairs.items ≡ 0 = grind (arith, nat_tests) in
    holders_none m t lines choices c.args.self.now.issues.items are c.args.class c.args.number c.args.line count there
    (nothing_of m c.args.plan.now is c.args.class c.args.number c.requires.number (pairs ∙ no_length c.index.result.now.pairs.items none))

pub returns-clause-holds : goal.returns-clause-holds
returns-clause-holds c = λ m t lines choices is count there are.
    let read : choices_at c.args.plan.now c.args.class ≡ c.index-choices.result.now.items = choices_read c.args.plan.now c.args.class c.index-choices.result.now c.index-choices.ensures (omega arith) in
    let low : c.args.number < length c.index-choices.result.now.items = subst (λ (cs : List Choice). c.args.number < length cs) read c.requires.number in
    let pairs : pairs_at (choices_at c.args.plan.now c.args.class) c.args.number ≡ c.index.result.now.pairs.items =
    ap (λ (cs : List Choice). pairs_at cs c.args.number) read ∙ ap pairs_of (slice_get_read c.index-choices.result.now.items (length c.index-choices.result.now.items) c.args.number c.index.result.now refl low c.index.ensures) in
    let some : 0 < length c.index.result.now.pairs.items = grind (arith, nat_tests) in
    let last = c.last_cycle-last.result in
    subst (λ (hs : List Holder). AreHolders m (t ++ issue c.args.class ∷ []) lines (choices ++ c.args.number ∷ []) hs) (sym c.in_ok-push.ensures.items)
    (holders_issue m t lines choices c.args.self.now.issues.items are c.args.class c.args.number c.args.line last count there
    (holder_of m c.args.plan.now is c.args.class c.args.number c.args.line c.requires.number c.index.result.now.pairs.items pairs some last (c.last_cycle-last.ensures ∙ ap last_of c.deref.ensures.value)))
