pub mod Smallest
pub mod ByClass
