pub mod Freshening
pub mod Puts
pub mod Reading
pub mod Tables
pub mod Trailers
