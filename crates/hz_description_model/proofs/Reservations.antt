-- Reservation expressions, their alternatives and set statements, and the units of automata.
pub mod ExpressionLaws
pub mod MeaningLaws
pub mod AscendingLaws
pub mod ListInLaws
pub mod FirstPlaces
pub mod ListedLaws
pub mod PlacedLaws
pub mod SamePairsLaws
pub mod FitLaws
pub mod UnitLaws
pub mod MentionLaws
