pub mod RecordText
pub mod Values
pub mod RecordJson
pub mod Forms
pub mod Listing
pub mod Pairs
pub mod Escapes
pub mod Lines
