use Rattle.hz_laws.proofs.Names.NameLaws.{excluded_itself}
use Rattle.hz_laws.proofs.name_laws.self_exclusions_stand_in_both_strings.Goals as goal

pub returns : goal.returns
returns c = excluded_itself
