use Rattle.hz_laws.proofs.Leaving.ListingLaws.{left_listed}
use Rattle.hz_laws.proofs.leaving_laws.what_events_leave_can_be_listed.Goals as goal

pub returns : goal.returns
returns g c = record { listed = left_listed }
