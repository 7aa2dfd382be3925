pub mod Slots
pub mod Searches
pub mod Weighing
pub mod Tallies
pub mod Making
pub mod Policies
