-- What the forms of a description say.
pub mod Descriptions
pub mod DescriptionShape
pub mod DescriptionForms
pub mod Conditions
pub mod AddedItems
pub mod Limits
