use Rattle.hz_why_laws.proofs.GroupLaws.{one_group}
use Rattle.hz_why_laws.proofs.groups.items_are_in_one_group.Goals as goal

pub returns : goal.returns
returns g c = one_group
