pub mod Sums
pub mod Firsts
pub mod Tasks
pub mod Verdict
pub mod Accepted
pub mod Drafts
pub mod Tables
pub mod Readers
