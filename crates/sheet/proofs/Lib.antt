pub mod Listed
pub mod Naming
pub mod Paging
pub mod Responding
pub mod Admitting
pub mod Keeping
pub mod Going
pub mod Files
