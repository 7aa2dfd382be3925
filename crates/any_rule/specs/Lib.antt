pub mod Any
pub mod Either
