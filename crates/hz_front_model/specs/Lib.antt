pub mod Texts
pub mod Phases
pub mod FaultTexts
pub mod Descriptions
pub mod Asks
pub mod Replays
