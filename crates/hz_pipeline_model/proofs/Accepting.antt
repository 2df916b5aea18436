-- Acceptance of events, by a calendar and by runs.
pub mod SameLaws
pub mod FittingLaws
pub mod ReplayLaws
pub mod AcceptanceLaws
pub mod ChoiceLaws
pub mod PlayLaws
pub mod AskLaws
pub mod InsideFits
pub mod RestrictLaws
pub mod Rows
