pub mod Machines
pub mod Wakings
pub mod Writings
pub mod Answering
pub mod Promises
