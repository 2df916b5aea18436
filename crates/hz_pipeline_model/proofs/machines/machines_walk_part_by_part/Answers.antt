use Rattle.hz_pipeline_model.proofs.Tables.MachineLaws.{machine_walk-each, machine_walk-part, machine_walk-all}
use Rattle.hz_pipeline_model.proofs.machines.machines_walk_part_by_part.Goals as goal

pub returns-clause-each : goal.returns-clause-each
returns-clause-each c = machine_walk-each

pub returns-clause-parts : goal.returns-clause-parts
returns-clause-parts c = machine_walk-part

pub returns-clause-all : goal.returns-clause-all
returns-clause-all c = machine_walk-all
