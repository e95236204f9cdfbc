pub mod Cuts
mod Adds
pub mod Dumps
pub mod Ends
pub mod Givens
mod JobLemmas
pub mod Joins
mod Lasts
pub mod Marks
pub mod Pairs
pub mod Pointers
pub mod Seeks
pub mod Stores
pub mod Told
pub mod Workers
