pub mod Windows
pub mod Trailers
pub mod Files
pub mod Agreement
