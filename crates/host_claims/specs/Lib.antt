pub mod Answer
pub mod Running
pub mod Freezing
pub mod Calls
pub mod Starts
pub mod RoundTrip
