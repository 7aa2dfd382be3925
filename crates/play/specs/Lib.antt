pub mod Lists
pub mod Views
pub mod Shown
pub mod Stops
pub mod Courses
pub mod Boards
