-- What private contracts, models of types and proofs say. No public contract names these definitions.
pub mod DroppingFeeds
pub mod Feeding
pub mod Checking
pub mod Lasts
pub mod Segments
pub mod Rising
pub mod Checkpoints
pub mod Groups
pub mod Selections
pub mod Stretches
