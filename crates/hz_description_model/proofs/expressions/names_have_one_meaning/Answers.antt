use Rattle.hz_description_model.proofs.Reservations.MeaningLaws.{assigned, assigned_right, one_assignment}
use Rattle.hz_description_model.proofs.expressions.names_have_one_meaning.Goals as goal

pub returns-clause-some : goal.returns-clause-some
returns-clause-some g c = λ defined unwinds. (assigned defined unwinds, assigned_right defined unwinds)

pub returns-clause-one : goal.returns-clause-one
returns-clause-one g c = one_assignment
