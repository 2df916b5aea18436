use Rattle.hz_claims_laws.proofs.FirstUnits.{first_unit}
use Rattle.hz_claims_laws.proofs.load_laws.of_equal_loads_the_first_unit_is_named.Goals as goal

pub returns : goal.returns
returns c = first_unit
