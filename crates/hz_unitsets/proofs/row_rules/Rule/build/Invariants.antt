use Rattle.std.proofs.Common.{◌≡◌, map, take, All}
use Rattle.hz_unitsets.specs.SetRules.{in_order, each_once}
use Rattle.hz_unitsets.specs.RowRules.{IsRow}
use Rattle.hz_unitsets.proofs.row_rules.Rule.build.Given as goal
use Rattle.hz_grid.specs.Stored.{units_of}

abbrev pub invariant-loop-pattern : goal.invariant-loop-pattern
invariant-loop-pattern l = record {
  rows : All IsRow l.patterns.keys;
  units : map units_of l.patterns.keys ≡ each_once (map in_order (map (λ pattern. pattern.items) (take l.pattern-index l.pattern-items)));
}
