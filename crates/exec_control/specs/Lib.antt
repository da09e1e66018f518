pub mod Found
pub mod Roomy
pub mod Shows
