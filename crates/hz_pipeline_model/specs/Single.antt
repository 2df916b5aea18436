-- That what is compiled is one machine.
pub mod Reported
