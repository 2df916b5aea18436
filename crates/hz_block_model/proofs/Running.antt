-- What operators compute.
pub mod OperatorLaws
