-- Acceptance of events, by a calendar and by runs.
pub mod Events
pub mod Replay
pub mod Asking
pub mod Fitting
pub mod Plays
pub mod Examples
pub mod Restricted
