-- At which sites the faults of names stand.
pub mod NameFaults
pub mod UnknownNames
