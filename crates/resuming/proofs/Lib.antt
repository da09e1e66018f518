pub mod Exited
pub mod Granted
pub mod Packed
