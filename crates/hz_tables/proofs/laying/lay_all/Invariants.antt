use Rattle.std.proofs.Common.{◌≡◌, ◌+◌, ◌*◌, ◌≤◌, length}
use Rattle.hz_tables.specs.Laying.{IsLaid}
use Rattle.hz_tables.specs.Shape.{comb_of}
use Rattle.hz_tables.proofs.laying.lay_all.Given as goal

abbrev pub invariant-loop-state : goal.invariant-loop-state
invariant-loop-state l = record {
  next : length l.laying.bases.items ≡ l.state;
  laid : IsLaid l.plain.rows (comb_of l.plain.columns l.laying);
  few : length l.laying.owners.items ≤ l.state * (l.plain.columns + 1);
}
