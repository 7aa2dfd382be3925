pub mod Cores
pub mod Turns
pub mod Steps
pub mod Questions
