use Rattle.std.proofs.Common.{◌<◌, length, sym, subst}
use Rattle.hz_pipeline_model.specs.Tables.Machines.{Machine, part_at}
use Rattle.hz_tables.specs.Machines.{machine_of}
use Rattle.hz_layer_rows.proofs.AskLemmas.{asked_within}
use Rattle.hz_layer_rows.proofs.schedules.walking.ask.Goals as goal

pub ask-requires-clause-part : goal.ask-requires-clause-part
ask-requires-clause-part g c =
    subst (λ (m : Machine). c.in-Some.part < length m.parts) (sym c.requires)
    (asked_within (machine_of c.args.machine.now) c.args.name.now c.in-Some.part c.in-Some.ask (sym c.in-Some.ensures)).0

pub ask-requires-clause-ask : goal.ask-requires-clause-ask
ask-requires-clause-ask g c =
    subst (λ (m : Machine). c.in-Some.ask < length (part_at m c.in-Some.part).asks) (sym c.requires)
    (asked_within (machine_of c.args.machine.now) c.args.name.now c.in-Some.part c.in-Some.ask (sym c.in-Some.ensures)).1
