pub mod Codes
pub mod Tests
pub mod Lists
