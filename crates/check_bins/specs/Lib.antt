pub mod Counting
pub mod Text
