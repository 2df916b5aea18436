use Rattle.std.proofs.Common.{◌≡◌, ◌<◌, length, drop}
use Rattle.hz_modulo.specs.Lanes.{landed}
use Rattle.hz_modulo.proofs.jumps.land.Given as goal

abbrev pub invariant-loop-level : goal.invariant-loop-level
invariant-loop-level l = record {
  within : l.now < length l.top;
  rest : landed (drop l.level-index l.levels) l.top l.left l.now ≡ landed l.levels l.top l.cycles l.state;
}
