use Rattle.hz_why_laws.proofs.WayLaws.{left_hold}
use Rattle.hz_why_laws.proofs.holding.issues_left_are_those_that_hold.Goals as goal

pub returns : goal.returns
returns g c = left_hold
