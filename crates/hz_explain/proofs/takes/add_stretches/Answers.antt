use Rattle.std.proofs.Common.{drop, arith}
use Rattle.hz_explain.proofs.TakingLaws.{found_next, found_enough, found_all}
use Rattle.hz_explain.proofs.takes.add_stretches.Goals as goal

pub loop-place-preserved : goal.loop-place-preserved
loop-place-preserved c = record {
  room = omega (arith, c.add_stretch.ensures.few);
  come = found_next c.args.parts.now c.args.cycles c.loop-place.found.items c.add_stretch.new.found.items c.args.pairs.now c.loop-place.place (record { automaton = 0; unit = 0; cycle = 0 }) _ (omega arith) c.loop-place.invariant.come c.in_ok-add_stretch.ensures.added;
}

pub returns-then-len-ge-LOOKED_FOR : goal.returns-then-len-ge-LOOKED_FOR
returns-then-len-ge-LOOKED_FOR c = found_enough c.args.parts.now 81 c.args.cycles c.loop-place.found.items (drop c.loop-place.place c.args.pairs.now) _ (omega (arith, c.loop-place.found.ok.0)) c.loop-place.invariant.come

pub returns : goal.returns
returns c = found_all c.args.parts.now 81 c.args.cycles c.loop-place.found.items c.args.pairs.now c.loop-place.place _ (omega (arith, c.loop-place.found.ok.0)) (omega arith) c.loop-place.invariant.come
