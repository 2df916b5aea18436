use Rattle.std.proofs.Common.{arith}
use Rattle.std.proofs.lemmas.List.{get_or_default}
use Rattle.hz_grid.specs.Words.{AreWords}
use Rattle.hz_grid.proofs.ShiftLemmas.{raised_row}
use Rattle.hz_grid.proofs.shifting.raise.Goals as goal

pub returns-clause-units : goal.returns-clause-units
returns-clause-units c unit lt =
    let raised = c.loop-place.raised in
    let long = c.loop-place.invariant.length in
    let are : AreWords raised = λ k d within. rw (get_or_default raised k d 0 within) (c.loop-place.invariant.small k (omega (arith, within))) in
    raised_row c.args.words.now raised c.args.by are (λ k within. c.loop-place.invariant.done k (omega (arith, within))) unit (omega (arith, lt))
