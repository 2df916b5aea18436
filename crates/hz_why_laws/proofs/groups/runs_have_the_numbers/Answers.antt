use Rattle.hz_why_laws.proofs.RunLaws.{have_numbers, all_ascend, are_apart}
use Rattle.hz_why_laws.proofs.groups.runs_have_the_numbers.Goals as goal

pub returns : goal.returns
returns c = record { numbers = have_numbers; order = all_ascend; apart = are_apart }
