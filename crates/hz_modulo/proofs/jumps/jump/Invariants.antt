use Rattle.std.proofs.Common.{◌≡◌, ◌-◌, ◌<◌, length}
use Rattle.hz_modulo.specs.Lanes.{jumped}
use Rattle.hz_modulo.proofs.jumps.jump.Given as goal

abbrev pub invariant-loop-jump : goal.invariant-loop-jump
invariant-loop-jump l = record {
  within : l.now < length l.top;
  rest : jumped l.top (l.jumps - l._jump) l.now ≡ jumped l.top l.jumps l.state;
}
