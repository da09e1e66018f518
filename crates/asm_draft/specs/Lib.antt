pub mod Written
pub mod Operands
pub mod Parts
