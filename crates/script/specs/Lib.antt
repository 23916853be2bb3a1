pub mod Bytes
pub mod Words
pub mod Faults
pub mod Meaning
pub mod Grammar
pub mod Keywords
pub mod Commands
pub mod Lines
