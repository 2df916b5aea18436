pub mod Reservations
pub mod Grammar
pub mod Splits
pub mod Reading
pub mod Check
