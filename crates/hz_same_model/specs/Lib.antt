pub mod Words
pub mod Common
pub mod Telling
pub mod Products
pub mod Groups
pub mod Texts
pub mod Answers
