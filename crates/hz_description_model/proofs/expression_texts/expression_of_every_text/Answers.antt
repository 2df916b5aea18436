use Rattle.hz_description_model.proofs.Grammar.ExpressionTextsLaws.{every_text}
use Rattle.hz_description_model.proofs.expression_texts.expression_of_every_text.Goals as goal

pub returns : goal.returns
returns c = every_text
