use Rattle.std.proofs.Common.{arith}
use Rattle.hz_minim.specs.Lists.{lists_of}
use Rattle.hz_minim.proofs.ArrowLaws.{read_all}
use Rattle.hz_minim.proofs.arrows.arrows_of.Goals as goal

pub returns : goal.returns
returns c = read_all c.args.plain.now (lists_of c.loop-state.arrows.items) c.loop-state.state c.requires (omega (arith, c.states-state-end.ensures.states)) c.loop-state.invariant
