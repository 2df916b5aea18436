use Rattle.hz_why_model.proofs.HolderLaws.{calendar_in}
use Rattle.hz_why_model.proofs.holders.entries_are_the_calendar.Goals as goal

pub returns : goal.returns
returns g c = calendar_in
