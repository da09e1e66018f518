pub mod Takes
pub mod Places
pub mod Linked
pub mod Called
