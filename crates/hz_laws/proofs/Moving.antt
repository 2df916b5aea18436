pub mod FitLaws
pub mod MovingLaws
pub mod WrongMoves
