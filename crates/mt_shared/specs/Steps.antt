-- What private contracts, models of types and proofs say. No public contract names these definitions.
pub mod Rule
