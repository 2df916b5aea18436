pub mod Lists
pub mod Tables
pub mod HeldNumbers
pub mod Telling
pub mod Built
