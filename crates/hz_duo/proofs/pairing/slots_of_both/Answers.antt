use Rattle.std.proofs.Common.{ℕ, ◌<◌, length, All, ap, ◌∙◌, subst}
use Rattle.std.proofs.lemmas.List.{length-append}
use Rattle.hz_sched.specs.Shape.{slots_of}
use Rattle.hz_tables.specs.Machines.{machine_of}
use Rattle.hz_duo.proofs.JoinLemmas.{can_be_scheduled}
use Rattle.hz_duo.proofs.PairLemmas.{is_duo, in_range}
use Rattle.hz_duo.proofs.pairing.slots_of_both.Goals as goal

pub schedule-requires-clause-schedulable : goal.schedule-requires-clause-schedulable
schedule-requires-clause-schedulable c =
    can_be_scheduled (length c.args.machine.now.classes.items) c.args.first.now c.args.second.now c.in-Ok.graph c.requires.first c.requires.second c.requires.few c.in-Ok.ensures.insns c.in-Ok.ensures.joined

pub returns-in-Ok-paired-clause-schedule : goal.returns-in-Ok-paired-clause-schedule
returns-in-Ok-paired-clause-schedule c =
    is_duo (machine_of c.args.machine.now) c.args.first.now c.args.second.now c.in-Ok.graph (slots_of c.in-Ok-schedule.made.slots.items) c.in-Ok-paired.slots.items c.in-Ok.ensures.joined c.in-Ok-schedule.ensures.legal c.in-Ok-schedule.ensures.greedy c.in-Ok-paired.ensures

pub returns-in-Ok-paired-clause-range : goal.returns-in-Ok-paired-clause-range
returns-in-Ok-paired-clause-range c =
    let first = c.args.first.now.insns.items in
    let second = c.args.second.now.insns.items in
    in_range (length first) (length second) c.in-Ok-schedule.made.slots.items c.in-Ok-paired.slots.items c.in-Ok-paired.ensures
    (subst (λ (n : ℕ). All (λ x. x.place < n) c.in-Ok-schedule.made.slots.items) (ap length c.in-Ok.ensures.insns ∙ length-append first second) c.in-Ok-schedule.ensures.places)
