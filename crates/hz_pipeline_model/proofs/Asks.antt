-- Ask columns.
pub mod AskLaws
pub mod AlikeLaws
pub mod NumberLaws
pub mod BareLaws
pub mod BareWords
pub mod PresentLaws
