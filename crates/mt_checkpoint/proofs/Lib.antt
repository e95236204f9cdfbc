mod Fewest
mod Plans
pub mod Sound
mod Texts
