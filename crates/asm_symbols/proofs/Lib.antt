pub mod Sorts
pub mod Walks
pub mod Places
pub mod Stores
