pub mod Lines
pub mod Tables
pub mod Endings
