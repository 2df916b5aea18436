use Rattle.std.proofs.Common.{◌≡◌, ℕ}
use Rattle.hz_reasons.specs.Breaking.{is_held_with}
use Rattle.hz_reasons.specs.Taken.{is_held}
use Rattle.hz_reasons.proofs.BreakingLaws.{broken_from}
use Rattle.hz_reasons.proofs.statements.first_broken.Given as goal

abbrev pub invariant-loop-number : goal.invariant-loop-number
invariant-loop-number l = (now : ℕ) → broken_from (is_held l.grids) (is_held l.parts) (is_held_with l.grids l.parts) l.sets l.pairs now 0 ≡ broken_from (is_held l.grids) (is_held l.parts) (is_held_with l.grids l.parts) l.sets l.pairs now l.number
