pub mod Coded
pub mod Classes
