use Rattle.hz_why_laws.proofs.FirstLaws.{first_named}
use Rattle.hz_why_laws.proofs.first.the_first_reason_is_named.Goals as goal

pub returns : goal.returns
returns g c = first_named
