-- Reservation expressions, their alternatives and set statements, and the units of automata.
pub mod Alternatives
pub mod Expressions
pub mod NamesIn
pub mod Meanings
pub mod Automata
pub mod AlternativeLists
pub mod Sets
pub mod Inside
pub mod Limits
