pub mod Stands
pub mod Shows
