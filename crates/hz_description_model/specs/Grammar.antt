-- The texts of reservation expressions.
pub mod ExpressionTexts
pub mod ExpressionSteps
