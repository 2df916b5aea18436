use Rattle.std.proofs.Common.{◌≡◌, ◌++◌, drop, vec_len}
use Rattle.hz_description_model.specs.Reservations.Automata.{UnitPlace}
use Rattle.hz_explain.specs.Showing.{listed_for, holders_of, FindAlike}
use Rattle.hz_explain.proofs.picture.add_holders.Given as goal

abbrev pub invariant-loop-place : goal.invariant-loop-place
invariant-loop-place l = record {
  size : vec_len l.held ≡ 65536;
  added : (u : UnitPlace) → FindAlike (listed_for l.held.items u ++ holders_of l.plan (drop l.place l.issues) u) (listed_for l.fn.held.items u ++ holders_of l.plan l.issues u);
}
