-- The proofs of reading, from single bytes to whole texts.
pub mod Basics
pub mod Correct
pub mod Readers
pub mod Words
pub mod Digits
pub mod Names
pub mod Lines
pub mod Stopping
pub mod Parts
pub mod Ranges
pub mod Ranged
pub mod Orders
pub mod Reached
pub mod Verdicts
pub mod Numbers
pub mod Meanings
