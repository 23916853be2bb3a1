pub mod Denoted
pub mod Hex
pub mod Rest
