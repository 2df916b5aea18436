use Rattle.std.proofs.Common.{◌*◌}
use Rattle.hz_bound.specs.Tallies.{IsStepped}
use Rattle.hz_bound.proofs.tallies.add_row.Given as goal

-- the units of the blocks so far are reported
abbrev pub invariant-loop-block : goal.invariant-loop-block
invariant-loop-block l = IsStepped l.grid l.number l.cycle 0 (16 * l.block) l.initial.tallies l.tallies
