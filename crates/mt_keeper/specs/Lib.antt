pub mod Keeping
pub mod Calling
pub mod Refusals
pub mod Filing
pub mod Restarting
pub mod Crews
pub mod Lending
