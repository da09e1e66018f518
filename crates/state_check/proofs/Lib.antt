pub mod Called
pub mod Chained
pub mod Judged
pub mod Laws
pub mod Linked
pub mod Witness
