pub mod Four
pub mod Whole
pub mod Merge
pub mod Repeat
