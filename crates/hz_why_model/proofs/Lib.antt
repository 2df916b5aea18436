pub mod Finding
pub mod ReasonLaws
pub mod Taking
pub mod WaitLaws
pub mod HolderLaws
pub mod ChoiceLaws
pub mod SingleLaws
