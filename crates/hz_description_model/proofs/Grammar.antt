-- The texts of reservation expressions.
pub mod ExpressionTextsEnd
pub mod ExpressionTextsFormed
pub mod ExpressionTextsFront
pub mod ExpressionTextsLaws
pub mod ExpressionTextsRest
