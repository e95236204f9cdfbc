pub mod Shifts
pub mod Numbers
pub mod Changes
pub mod Rows
pub mod Eights
pub mod Codewords
