pub mod Running
pub mod Texts
pub mod Dependences
pub mod Scheduling
pub mod Scheduled
pub mod Settling
pub mod Schedulable
