pub mod Laws
pub mod Wholes
pub mod Held
pub mod Decimals
pub mod Vectors
