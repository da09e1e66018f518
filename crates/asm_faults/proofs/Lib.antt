pub mod Grouped
pub mod Parts
