pub mod Takes
pub mod Jumps
pub mod Entered
pub mod Switched
pub mod Ready
