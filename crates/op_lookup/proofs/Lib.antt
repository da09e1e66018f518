pub mod Letters
pub mod Index
