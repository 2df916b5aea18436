-- Which instructions of a block depend, and at what cost.
pub mod StoreLaws
pub mod ValueLaws
pub mod WrittenLaws
pub mod SourceLaws
pub mod DoneLaws
pub mod OrderLaws
pub mod UpwardLaws
pub mod HeightLaws
pub mod DataLaws
pub mod ClassLaws
pub mod ServeLaws
