pub mod Lines
pub mod Faults
pub mod Written
pub mod Output
