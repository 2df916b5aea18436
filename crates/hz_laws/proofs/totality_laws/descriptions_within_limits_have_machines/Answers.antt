use Rattle.hz_laws.proofs.Totality.MachineTotal.{some_machine}
use Rattle.hz_laws.proofs.totality_laws.descriptions_within_limits_have_machines.Goals as goal

pub returns : goal.returns
returns c = λ d known formed sound keep. let has = some_machine d known formed sound keep in (has.machine, has.reports, has.compiled, has.is, has.range, has.listed)
