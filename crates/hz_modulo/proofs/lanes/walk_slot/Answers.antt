use Rattle.std.proofs.Common.{Some, None, [], ◌∷◌, arith}
use Rattle.hz_modulo.specs.Walking.{graph_of}
use Rattle.hz_modulo.proofs.WalkingLemmas.{rest_issued, class_issued}
use Rattle.hz_modulo.proofs.LaneLemmas.{has_begun}
use Rattle.hz_modulo.proofs.lanes.walk_slot.Goals as goal

pub returns-in-Some-clause-walked : goal.returns-in-Some-clause-walked
returns-in-Some-clause-walked g c = λ interval kernel.
    let lane = c.args.lane.now in
    let states = c.args.place.state ∷ [] in
    rest_issued lane (graph_of c.args.classes.now) interval 0 c.args.turn c.args.slot kernel c.args.place.cycle states (Some (c.in-Some.state ∷ [])) (has_begun c.args.slot.stage c.args.turn (omega (arith, c.if-turn-slot.false)))
    (class_issued lane c.args.classes.now states c.args.place.cycle c.args.slot.offset c.args.slot.place (Some (c.in-Some.state ∷ [])) c.in-Some.ensures.taken)

pub returns-in-None-clause-refused : goal.returns-in-None-clause-refused
returns-in-None-clause-refused g c = λ interval kernel.
    let lane = c.args.lane.now in
    let states = c.args.place.state ∷ [] in
    rest_issued lane (graph_of c.args.classes.now) interval 0 c.args.turn c.args.slot kernel c.args.place.cycle states None (has_begun c.args.slot.stage c.args.turn (omega (arith, c.if-turn-slot.false)))
    (class_issued lane c.args.classes.now states c.args.place.cycle c.args.slot.offset c.args.slot.place None c.in-None.ensures.refused)
