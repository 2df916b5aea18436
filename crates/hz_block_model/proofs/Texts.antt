-- The texts of blocks and states.
pub mod FirstWrongs
pub mod Numbers
pub mod Listings
pub mod SaidValues
pub mod SaidBlocks
pub mod Faults
pub mod WrongTexts
