use Rattle.hz_description_model.proofs.Grammar.ExpressionTextsLaws.{one_fault}
use Rattle.hz_description_model.proofs.expression_texts.one_fault_of_expressions.Goals as goal

pub returns : goal.returns
returns c = one_fault
