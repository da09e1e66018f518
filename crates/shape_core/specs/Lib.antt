pub mod Known
pub mod Counted
