pub mod Tally
pub mod Stored
pub mod Gathered
