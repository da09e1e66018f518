pub mod Formats
pub mod Filled
