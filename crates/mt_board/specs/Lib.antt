pub mod Board
pub mod Queue
pub mod Steps
