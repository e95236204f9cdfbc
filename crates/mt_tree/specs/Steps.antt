-- What private contracts, models of types and proofs say. No public contract names these definitions.
pub mod Pairs
pub mod Ranks
pub mod Places
pub mod Seams
pub mod Levels
pub mod NodeViews
pub mod DraftViews
pub mod Falls
pub mod Edges
pub mod Ranging
