pub mod Names
pub mod Classes
pub mod Tokens
pub mod Lines
pub mod Ranges
pub mod Tables
pub mod Standing
pub mod View
