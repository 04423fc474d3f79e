pub mod Table
pub mod Began
pub mod View
