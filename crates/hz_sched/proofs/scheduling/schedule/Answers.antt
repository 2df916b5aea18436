use Rattle.std.proofs.Common.{sym, ◌∙◌}
use Rattle.hz_tables.specs.Machines.{machine_of}
use Rattle.hz_block_model.proofs.Scheduling.StuckLaws.{none_stuck}
use Rattle.hz_sched.specs.Shape.{graph_of}
use Rattle.hz_sched.proofs.scheduling.schedule.Goals as goal

pub slots_on-requires-clause-start : goal.slots_on-requires-clause-start
slots_on-requires-clause-start c = record { alone = none_stuck (machine_of c.args.machine.now) (graph_of c.args.graph.now) (sym c.first_stuck.ensures ∙ c.in_default.is) }

pub returns-in-Ok-clause-fault : goal.returns-in-Ok-clause-fault
returns-in-Ok-clause-fault c = sym c.in_default.is ∙ c.first_stuck.ensures

pub returns-in-Err-clause-fault : goal.returns-in-Err-clause-fault
returns-in-Err-clause-fault c = sym c.in_default.is ∙ c.first_stuck.ensures
