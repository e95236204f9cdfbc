pub mod Keeps
pub mod Closes
