pub mod After
pub mod Listed
