pub mod Room
pub mod Verdicts
