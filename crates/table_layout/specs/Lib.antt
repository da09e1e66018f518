pub mod Below
pub mod Laid
