pub mod Symbolic
pub mod Walk
