pub mod Whole
pub mod Wide
