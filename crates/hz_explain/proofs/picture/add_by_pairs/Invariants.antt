use Rattle.std.proofs.Common.{◌≡◌, ◌++◌, drop, vec_len}
use Rattle.hz_description_model.specs.Reservations.Automata.{UnitPlace}
use Rattle.hz_explain.specs.Showing.{listed_for, each_time, FindAlike}
use Rattle.hz_explain.proofs.picture.add_by_pairs.Given as goal

abbrev pub invariant-loop-place : goal.invariant-loop-place
invariant-loop-place l = record {
  size : vec_len l.held ≡ 65536;
  added : (u : UnitPlace) → FindAlike (listed_for l.held.items u ++ each_time l.age u l.holder (drop l.place l.pairs)) (listed_for l.fn.held.items u ++ each_time l.age u l.holder l.pairs);
}
