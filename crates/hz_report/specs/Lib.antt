pub mod PartsAfter
pub mod Replays
pub mod Schedules
