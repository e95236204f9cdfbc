pub mod Layer
pub mod Borders
pub mod Nodes
pub mod Layers
pub mod Range
pub mod Trees
pub mod Steps
