pub mod DriveLemmas
pub mod ReadLemmas
pub mod Writing
pub mod PieceTexts
pub mod Adding
