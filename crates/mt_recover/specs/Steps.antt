-- What private contracts, models of types and proofs say. No public contract names these definitions.
pub mod LogScans
pub mod Assembling
pub mod Outcomes
pub mod Scanning
pub mod Preparing
pub mod Replaying
pub mod Fates
pub mod Holes
pub mod Batches
