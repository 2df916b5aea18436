use Rattle.hz_description_model.proofs.Reservations.MeaningLaws.{some_alts, one_alts}
use Rattle.hz_description_model.proofs.expressions.expressions_have_one_meaning.Goals as goal

pub returns-clause-some : goal.returns-clause-some
returns-clause-some g c = some_alts

pub returns-clause-one : goal.returns-clause-one
returns-clause-one g c = one_alts
