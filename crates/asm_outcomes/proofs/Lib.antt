pub mod Written
pub mod Operands
