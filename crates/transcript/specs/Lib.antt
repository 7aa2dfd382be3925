pub mod Policies
pub mod Shows
pub mod Stages
pub mod Steps
pub mod Transcripts
pub mod Ages
pub mod Contests
