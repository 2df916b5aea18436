use Rattle.hz_claims_laws.proofs.OtherGuards.{each, only}
use Rattle.hz_claims_laws.proofs.guard_laws.another_guard_is_unknown.Goals as goal

pub returns-clause-each : goal.returns-clause-each
returns-clause-each c = each

pub returns-clause-only : goal.returns-clause-only
returns-clause-only c = only
