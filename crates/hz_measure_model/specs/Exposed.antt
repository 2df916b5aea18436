pub mod Exposed
pub mod ByDescription
pub mod Texts
pub mod Examples
