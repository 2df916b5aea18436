-- What the forms of a description say.
pub mod DescriptionLaws
pub mod DescriptionFormed
pub mod DescriptionFormedAll
pub mod FormSizes
pub mod CheckableLaws
pub mod AddedLaws
pub mod OptionLaws
