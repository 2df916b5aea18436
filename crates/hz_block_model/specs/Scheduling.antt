-- Legal and greedy schedules.
pub mod Schedules
pub mod Machines
