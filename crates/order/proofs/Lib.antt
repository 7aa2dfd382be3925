pub mod Bits
pub mod Chosen
pub mod Looked
pub mod Listed
