-- What each text says as an expression: the reading that the parts of the reader speak of.
use Rattle.std.specs.Prelude.{ℕ, List}
use Rattle.hz_description_model.specs.Reading.DescriptionForms.{Said}
use Rattle.hz_description_model.proofs.Grammar.ExpressionTextsLaws.{outcome_of}

unfoldable pub reading : List ℕ → Said
reading text = outcome_of text
