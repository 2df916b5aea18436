use Rattle.hz_why_laws.proofs.WayLaws.{took_all}
use Rattle.hz_why_laws.proofs.holding.issues_took_what_is_reserved.Goals as goal

pub returns : goal.returns
returns g c = took_all
