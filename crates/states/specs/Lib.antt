pub mod Memory
pub mod Views
