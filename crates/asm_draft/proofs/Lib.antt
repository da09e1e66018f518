pub mod Storing
pub mod TextWords
pub mod PlaceValues
pub mod Rows
pub mod Sizes
pub mod Passing
pub mod Drafting
pub mod Sections
