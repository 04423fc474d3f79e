pub mod Poking
pub mod Counted
pub mod Reading
pub mod Rows
pub mod Loading
