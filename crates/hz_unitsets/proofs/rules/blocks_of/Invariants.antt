use Rattle.std.proofs.Common.{◌≤◌, ◌-◌, length, All}
use Rattle.hz_unitsets.specs.RowRules.{IsBlock}
use Rattle.hz_unitsets.proofs.rules.blocks_of.Given as goal

abbrev pub invariant-loop-from : goal.invariant-loop-from
invariant-loop-from l = record { blocks : All (IsBlock l.rules) l.blocks.items; within : l.from ≤ length l.rules }

abbrev pub decreases-loop-from : goal.decreases-loop-from
decreases-loop-from l = length l.rules - l.from
