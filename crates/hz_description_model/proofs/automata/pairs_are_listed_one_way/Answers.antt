use Rattle.hz_description_model.proofs.Reservations.AscendingLaws.{same_ascending, IsAscending-ascending, ascending_same, ascending_itself}
use Rattle.hz_description_model.proofs.automata.pairs_are_listed_one_way.Goals as goal

pub returns-clause-same : goal.returns-clause-same
returns-clause-same c = same_ascending

pub returns-clause-ascending : goal.returns-clause-ascending
returns-clause-ascending c = IsAscending-ascending

pub returns-clause-one : goal.returns-clause-one
returns-clause-one c = ascending_same

pub returns-clause-itself : goal.returns-clause-itself
returns-clause-itself c = ascending_itself
