use Rattle.hz_claims_laws.proofs.TakenUnits.{loads_are}
use Rattle.hz_claims_laws.proofs.taking_laws.every_unit_has_its_load.Goals as goal

pub returns : goal.returns
returns c = loads_are
