pub mod Checkpoints
pub mod Steps
