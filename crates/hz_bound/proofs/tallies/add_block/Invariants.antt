use Rattle.std.proofs.Common.{◌≤◌, ◌+◌}
use Rattle.hz_bound.specs.Tallies.{IsStepped}
use Rattle.hz_bound.proofs.tallies.add_block.Given as goal

-- the units up to one are reported
abbrev pub invariant-loop-unit : goal.invariant-loop-unit
invariant-loop-unit l = record {
  low : l.first ≤ l.unit;
  high : l.unit ≤ l.first + 16;
  stepped : IsStepped l.grid l.number l.cycle l.first l.unit l.initial.tallies l.tallies;
}
