pub mod Crashes
pub mod Resuming
pub mod Lives
pub mod Names
pub mod Fresh
pub mod PartFiles
pub mod Writing
pub mod Damage
