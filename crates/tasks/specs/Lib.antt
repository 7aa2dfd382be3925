pub mod Levels
pub mod Parts
pub mod Comparisons
pub mod Refusals
pub mod Slots
