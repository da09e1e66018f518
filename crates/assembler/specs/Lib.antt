pub mod Answers
pub mod Judges
