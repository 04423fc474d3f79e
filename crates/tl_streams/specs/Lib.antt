pub mod Streams
pub mod Input
