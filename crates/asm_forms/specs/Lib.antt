pub mod Terms
pub mod Quotes
