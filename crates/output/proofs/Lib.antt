pub mod Widths
pub mod Spelled
pub mod Pages
