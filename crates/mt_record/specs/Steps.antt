-- What private contracts, models of types and proofs say. No public contract names these definitions.
pub mod Bodies
pub mod Adding
pub mod ByteStrings
pub mod Blocks
pub mod Kept
pub mod Texts
pub mod Streams
pub mod Splits
pub mod Runs
pub mod Salvages
pub mod Climbs
pub mod Telling
pub mod Joining
