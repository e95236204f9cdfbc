pub mod Sums
pub mod Keeps
pub mod Closes
pub mod Drawing
pub mod Queues
pub mod QueueCloses
