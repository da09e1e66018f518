pub mod Belows
pub mod Sizes
