use Rattle.std.proofs.Common.{◌<◌, length, map, All, sym, ap, subst}
use Rattle.hz_block_model.specs.Scheduling.Machines.{Settles}
use Rattle.hz_pipeline_model.specs.Tables.Machines.{Machine}
use Rattle.hz_replay.specs.Replaying.{Standing}
use Rattle.hz_tables.specs.Machines.{machine_of}
use Rattle.hz_modulo.specs.Walking.{kernel_slot_of, graph_of}
use Rattle.hz_modulo.specs.Repeating.{edge_by, drain_by, MeetsBy}
use Rattle.hz_modulo.proofs.DrainLemmas.{repeats_meet}
use Rattle.hz_modulo.proofs.HeldLemmas.{if_none}
use Rattle.hz_modulo.proofs.repeating.first_repeat_by.Goals as goal

pub first_meeting-requires-clause-settles : goal.first_meeting-requires-clause-settles
first_meeting-requires-clause-settles g c = subst Settles (sym (ap (λ (s : Standing). s.machine) c.start-walker.ensures)) c.requires.settles

pub first_meeting-requires-clause-classes : goal.first_meeting-requires-clause-classes
first_meeting-requires-clause-classes g c = subst (λ (m : Machine). All (λ k. k < length m.classes) c.args.classes.now) (sym (ap (λ (s : Standing). s.machine) c.start-walker.ensures)) c.requires.classes

pub all_drain-requires-clause-settles : goal.all_drain-requires-clause-settles
all_drain-requires-clause-settles g c = subst Settles (sym (ap (λ (s : Standing). s.machine) c.start-again.ensures)) c.requires.settles

pub all_drain-requires-clause-classes : goal.all_drain-requires-clause-classes
all_drain-requires-clause-classes g c = subst (λ (m : Machine). All (λ k. k < length m.classes) c.args.classes.now) (sym (ap (λ (s : Standing). s.machine) c.start-again.ensures)) c.requires.classes

pub returns-in_default-clause-none : goal.returns-in_default-clause-none
returns-in_default-clause-none g c = λ first second r.
    let m = machine_of c.args.machine.now in
    let gr = graph_of c.args.classes.now in
    let kernel = map kernel_slot_of c.args.kernel.now in
    let same = ap (λ (s : Standing). s.machine) c.start-walker.ensures in
    let none = if_none c.in_ok-found.found _ c.in_default.is c.in_ok-found.ensures.none in
    none first second
    (subst (λ (n : Machine). MeetsBy n gr c.args.interval c.args.stages kernel first second) (sym same)
    (repeats_meet (edge_by m gr c.args.interval kernel) (drain_by m gr c.args.interval kernel c.args.stages) c.args.stages first second r))
