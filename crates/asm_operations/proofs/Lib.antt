pub mod Laws
pub mod Assembled
pub mod Begins
pub mod FormatWords
pub mod Letters
