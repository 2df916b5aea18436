use Rattle.std.proofs.Common.{◌≡◌, ◌+◌, List, Some, None, drop, sym, ap, ◌∙◌, subst, arith}
use Rattle.std.proofs.lemmas.List.{drop_more, drop_all}
use Rattle.hz_pipeline_model.specs.Tables.Machines.{Machine, parts_walk}
use Rattle.hz_block_model.specs.Scheduling.Schedules.{advance_to}
use Rattle.hz_modulo.specs.declared.parts.KernelSlot.{KernelSlot}
use Rattle.hz_modulo.specs.Walking.{graph_of, walk_rest}
use Rattle.hz_modulo.proofs.WalkingLemmas.{rest_is}
use Rattle.hz_modulo.proofs.walking.walk_interval.Goals as goal

pub returns-in-None-clause-refused : goal.returns-in-None-clause-refused
returns-in-None-clause-refused g c =
    let m = c.args.walker.now.machine in
    let gr = graph_of c.args.classes.now in
    let i = c.loop-slot.slot-index in
    let kernel = c.args.kernel.now in
    let none : KernelSlot = record { offset = 0; stage = 0; place = 0 } in
    let at : walk_rest c.loop-slot.walker.machine gr c.args.interval c.args.least c.args.most (drop i kernel) c.loop-slot.cycle c.loop-slot.walker.states ≡ None =
    ap (λ (xs : List KernelSlot). walk_rest c.loop-slot.walker.machine gr c.args.interval c.args.least c.args.most xs c.loop-slot.cycle c.loop-slot.walker.states) (drop_more kernel i none c.loop-slot-test.true)
    ∙ c.in-None.ensures.refused c.args.interval (drop (i + 1) kernel) in
    sym (rest_is m gr c.args.interval c.args.least c.args.most kernel 0 c.args.walker.now.states)
    ∙ (sym c.loop-slot.invariant.rest
    ∙ subst (λ (n : Machine). walk_rest n gr c.args.interval c.args.least c.args.most (drop i kernel) c.loop-slot.cycle c.loop-slot.walker.states ≡ None) c.loop-slot.invariant.machine at)

pub returns-clause-taken : goal.returns-clause-taken
returns-clause-taken g c =
    let m = c.args.walker.now.machine in
    let gr = graph_of c.args.classes.now in
    let i = c.loop-slot.slot-index in
    let kernel = c.args.kernel.now in
    sym (rest_is m gr c.args.interval c.args.least c.args.most kernel 0 c.args.walker.now.states)
    ∙ (sym c.loop-slot.invariant.rest
    ∙ (ap (λ (xs : List KernelSlot). walk_rest m gr c.args.interval c.args.least c.args.most xs c.loop-slot.cycle c.loop-slot.walker.states) (drop_all i kernel (omega arith))
    ∙ subst (λ (n : Machine). parts_walk n.parts c.loop-slot.walker.states (advance_to c.loop-slot.cycle c.args.interval) ≡ Some c.advance_until.new.walker.states) c.loop-slot.invariant.machine c.advance_until.ensures.taken))
