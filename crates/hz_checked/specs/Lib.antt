pub mod Shape
pub mod NumberRows
