pub mod Answers
pub mod Packing
