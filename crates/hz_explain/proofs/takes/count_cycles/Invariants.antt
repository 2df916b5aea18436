use Rattle.std.proofs.Common.{◌≡◌, ◌≤◌, max, map, drop}
use Rattle.hz_why_model.specs.Pictures.{cycles_in}
use Rattle.hz_reasons.specs.Plans.{place_of}
use Rattle.hz_explain.proofs.takes.count_cycles.Given as goal

abbrev pub invariant-loop-pair : goal.invariant-loop-pair
invariant-loop-pair l = record {
  few : l.cycles ≤ 65536;
  come : max l.cycles (cycles_in (map place_of (drop l.pair-index l.pairs))) ≡ cycles_in (map place_of l.pairs);
}
