pub mod Answers
pub mod Questions
pub mod Ranges
pub mod Rows
pub mod Written
pub mod Steps
