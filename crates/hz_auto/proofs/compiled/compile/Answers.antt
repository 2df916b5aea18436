use Rattle.hz_auto.proofs.MachineLemmas.{compiled_all}
use Rattle.hz_tables.specs.Machines.{machine_of}
use Rattle.hz_auto.proofs.compiled.compile.Goals as goal

pub returns-in-Ok-machine_on-clause-compiled : goal.returns-in-Ok-machine_on-clause-compiled
returns-in-Ok-machine_on-clause-compiled c = compiled_all c.args.checked.now c.in-Ok.all.parts.items c.in-Ok.all.reports.items (machine_of c.in-Ok-machine_on.machine) c.in-Ok.ensures.compiled c.in-Ok-machine_on.ensures.machine
