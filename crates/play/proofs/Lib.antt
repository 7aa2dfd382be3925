pub mod Outlined
pub mod Amounts
pub mod Showings
pub mod Coursing
pub mod Ticked
pub mod Reading
pub mod Boarding
