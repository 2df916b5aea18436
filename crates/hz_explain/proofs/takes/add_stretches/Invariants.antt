use Rattle.std.proofs.Common.{◌≡◌, ◌≤◌, ◌++◌, map, drop, vec_len}
use Rattle.hz_reasons.specs.Plans.{place_of}
use Rattle.hz_explain.specs.Taking.{stretch_of, stretches_by}
use Rattle.hz_explain.proofs.takes.add_stretches.Given as goal

abbrev pub invariant-loop-place : goal.invariant-loop-place
invariant-loop-place l = record {
  room : vec_len l.found ≤ 81;
  come : map stretch_of l.found.items ++ stretches_by l.parts l.cycles (map place_of (drop l.place l.pairs)) ≡ map stretch_of l.fn.found.items ++ stretches_by l.parts l.cycles (map place_of l.pairs);
}
