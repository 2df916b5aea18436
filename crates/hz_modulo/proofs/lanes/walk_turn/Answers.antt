use Rattle.std.proofs.Common.{◌+◌, List, [], ◌∷◌, drop, sym, ap, ◌∙◌, arith}
use Rattle.std.proofs.lemmas.List.{drop_more, drop_all}
use Rattle.hz_modulo.specs.declared.parts.KernelSlot.{KernelSlot}
use Rattle.hz_modulo.specs.Walking.{graph_of, walk_rest}
use Rattle.hz_modulo.proofs.WalkingLemmas.{rest_is}
use Rattle.hz_modulo.proofs.lanes.walk_turn.Goals as goal

pub returns-in-None-clause-refused : goal.returns-in-None-clause-refused
returns-in-None-clause-refused g c =
    let lane = c.args.lane.now in
    let gr = graph_of c.args.classes.now in
    let i = c.loop-slot.slot-index in
    let kernel = c.args.kernel.now in
    let none : KernelSlot = record { offset = 0; stage = 0; place = 0 } in
    sym (rest_is lane gr c.args.interval 0 c.args.turn kernel 0 (c.args.state ∷ []))
    ∙ (sym c.loop-slot.invariant.rest
    ∙ (ap (λ (xs : List KernelSlot). walk_rest lane gr c.args.interval 0 c.args.turn xs c.loop-slot.place.cycle (c.loop-slot.place.state ∷ [])) (drop_more kernel i none c.loop-slot-test.true)
    ∙ c.in-None.ensures.refused c.args.interval (drop (i + 1) kernel)))

pub returns-clause-taken : goal.returns-clause-taken
returns-clause-taken g c =
    let lane = c.args.lane.now in
    let gr = graph_of c.args.classes.now in
    let i = c.loop-slot.slot-index in
    let kernel = c.args.kernel.now in
    sym (rest_is lane gr c.args.interval 0 c.args.turn kernel 0 (c.args.state ∷ []))
    ∙ (sym c.loop-slot.invariant.rest
    ∙ (ap (λ (xs : List KernelSlot). walk_rest lane gr c.args.interval 0 c.args.turn xs c.loop-slot.place.cycle (c.loop-slot.place.state ∷ [])) (drop_all i kernel (omega arith))
    ∙ c.advance_until.ensures.taken))
