use Rattle.std.proofs.Common.{◌≡◌, map, take}
use Rattle.hz_tables.specs.Widths.{number_of}
use Rattle.hz_tables.proofs.pairs.Pairs.of.Given as goal

abbrev pub invariant-loop-place : goal.invariant-loop-place
invariant-loop-place g l = record {
  owners : map (λ pair. number_of pair.owner) l.pairs.items ≡ take l.place l.owners;
  targets : map (λ pair. number_of pair.target) l.pairs.items ≡ take l.place l.targets;
}
