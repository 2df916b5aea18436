use Rattle.std.proofs.Common.{ℕ, ◌<◌, get_or}
use Rattle.hz_reasons.specs.Frontiers.{Grids}
use Rattle.hz_reasons.specs.Waiting.{EndBefore}
use Rattle.hz_reasons.proofs.waiting.cycles_of_entries.Given as goal

abbrev pub invariant-loop-entry : goal.invariant-loop-entry
invariant-loop-entry l = (k : ℕ) → k < l.entry-index → (d : Grids) → EndBefore l.cycles (get_or l.entries k d)
