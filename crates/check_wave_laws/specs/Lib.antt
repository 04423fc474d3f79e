pub mod Seen
pub mod Rows
pub mod Text
pub mod Sampled
