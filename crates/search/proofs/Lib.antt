pub mod Ring
pub mod Places
pub mod OneByOne
pub mod Links
pub mod Turns
