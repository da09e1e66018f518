pub mod Takes
