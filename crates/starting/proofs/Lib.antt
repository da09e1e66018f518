pub mod Starting
pub mod Promises
