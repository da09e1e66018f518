pub mod Copies
pub mod Links
pub mod Witness
