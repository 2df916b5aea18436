-- The texts of blocks and states.
pub mod Operands
pub mod Values
pub mod BlockForms
pub mod StateForms
pub mod StateTexts
pub mod Grammar
pub mod WrongForms
