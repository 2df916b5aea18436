use Rattle.hz_description_model.proofs.Grammar.ExpressionTextsLaws.{well_formed}
use Rattle.hz_description_model.proofs.expression_texts.expressions_are_well_formed.Goals as goal

pub returns : goal.returns
returns c = well_formed
