pub mod Forms
pub mod Divided
pub mod Delimited
