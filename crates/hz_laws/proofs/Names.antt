-- At which sites the faults of names stand.
pub mod Listing
pub mod NamesAt
pub mod ClassNumbers
pub mod NameLaws
pub mod UnknownLaws
pub mod SoundLaws
