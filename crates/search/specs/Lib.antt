pub mod Waiting
pub mod Meeting
