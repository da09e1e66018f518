pub mod Coded
pub mod Front
