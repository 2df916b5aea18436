use Rattle.hz_description_model.proofs.Grammar.ExpressionTextsLaws.{one_expression}
use Rattle.hz_description_model.proofs.expression_texts.one_expression.Goals as goal

pub returns : goal.returns
returns c = one_expression
