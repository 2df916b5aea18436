-- Tables, what is walked in them, and machines of tables.
pub mod StateLimits
pub mod Tables
pub mod Apart
pub mod Orders
pub mod AskColumns
pub mod Machines
pub mod MachineNames
