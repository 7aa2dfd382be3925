pub mod Noted
pub mod Marks
