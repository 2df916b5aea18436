use Rattle.hz_description_model.proofs.Grammar.ExpressionTextsLaws.{expression_or_fault}
use Rattle.hz_description_model.proofs.expression_texts.expression_or_fault.Goals as goal

pub returns : goal.returns
returns c = expression_or_fault
