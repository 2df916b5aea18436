pub mod Parts
pub mod Digits
pub mod Leaves
pub mod StepLemmas
pub mod ReaderLemmas
