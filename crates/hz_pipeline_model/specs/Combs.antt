-- Combs: tables whose rows are laid into one another.
pub mod Combs
