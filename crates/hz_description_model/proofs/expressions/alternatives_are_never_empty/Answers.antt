use Rattle.std.proofs.Common.{suc, arith}
use Rattle.hz_description_model.proofs.Reservations.ExpressionLaws.{some_alternatives}
use Rattle.hz_description_model.proofs.Reservations.MeaningLaws.{some_assigned}
use Rattle.hz_description_model.proofs.expressions.alternatives_are_never_empty.Goals as goal

pub returns-clause-expressions : goal.returns-clause-expressions
returns-clause-expressions g c = some_alternatives

pub returns-clause-names : goal.returns-clause-names
returns-clause-names g c = λ defined unwinds written known right name is. some_assigned defined unwinds known right written (suc (unwinds.rank name)) name (omega arith) is
