pub mod Looping
pub mod Promised
pub mod Promises
