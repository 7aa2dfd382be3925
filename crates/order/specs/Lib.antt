pub mod Orders
pub mod Ties
pub mod Bits
pub mod Choice
pub mod Slots
pub mod Keys
