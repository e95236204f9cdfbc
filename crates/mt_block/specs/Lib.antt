pub mod Blocks
pub mod Sealing
pub mod Adding
pub mod Parts
