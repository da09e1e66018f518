pub mod Laws
pub mod Takes
