-- The proofs that the controller file is what its offsets say.
pub mod Layout
pub mod Order
pub mod Verdicts
