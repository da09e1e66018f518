pub mod Answers
pub mod Begins
pub mod Freezes
pub mod Told
pub mod Resumes
