pub mod Names
pub mod Telling
pub mod Deciding
