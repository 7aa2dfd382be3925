pub mod Firsts
pub mod Sums
pub mod Accepted
pub mod Tables
