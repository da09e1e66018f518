pub mod Sizes
pub mod Loads
