pub mod Tables
pub mod Safety
pub mod Surveys
pub mod Control
pub mod Answers
pub mod Refused
