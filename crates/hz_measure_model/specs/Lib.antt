pub mod Bounds
pub mod TwoContexts
pub mod Exposed
pub mod Kernels
