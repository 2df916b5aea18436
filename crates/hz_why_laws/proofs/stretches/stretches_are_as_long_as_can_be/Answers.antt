use Rattle.hz_why_laws.proofs.StretchLaws.{ends, begins}
use Rattle.hz_why_laws.proofs.stretches.stretches_are_as_long_as_can_be.Goals as goal

pub returns-clause-after : goal.returns-clause-after
returns-clause-after g c = ends

pub returns-clause-before : goal.returns-clause-before
returns-clause-before g c = begins
