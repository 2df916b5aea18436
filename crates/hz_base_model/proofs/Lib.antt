pub mod Elements
pub mod Ascending
pub mod PairOrder
pub mod LineLaws
pub mod Forms
