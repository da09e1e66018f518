pub mod Values
pub mod Weights
pub mod Tallies
pub mod Storing
pub mod Passes
