use Rattle.std.proofs.Common.{[], ◌∷◌, map, inl, arith}
use Rattle.hz_modulo.specs.Walking.{kernel_slot_of, graph_of}
use Rattle.hz_modulo.proofs.LaneLemmas.{stuck_early}
use Rattle.hz_modulo.proofs.lanes.is_stuck.Goals as goal

pub returns-in-None : goal.returns-in-None
returns-in-None g c = inl (stuck_early c.args.lane.now (graph_of c.args.classes.now) c.args.interval (map kernel_slot_of c.args.kernel.now) c.args.stages c.loop-turn.turn (c.loop-turn.state ∷ [])
    (omega (arith, c.loop-turn-test.true)) c.loop-turn.invariant.here c.in-None.ensures.refused)
