-- What private contracts, models of types and proofs say. No public contract names these definitions.
pub mod Walker
pub mod SortedUpdates
pub mod Numbers
pub mod Auditor
pub mod Dealing
pub mod Merging
