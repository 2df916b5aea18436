pub mod GroupFits
pub mod GroupTakes
pub mod GroupRuns
pub mod WrongGroups
pub mod Renaming
