use Rattle.hz_why_laws.proofs.StretchLaws.{same_lists}
use Rattle.hz_why_laws.proofs.stretches.alternatives_of_one_line_take_the_same.Goals as goal

pub returns : goal.returns
returns g c = same_lists
