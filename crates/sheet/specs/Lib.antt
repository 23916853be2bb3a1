pub mod Added
pub mod Shows
pub mod Requests
pub mod Replayed
