pub mod Crossed
pub mod Messages
pub mod Memories
pub mod Moments
pub mod Whenever
pub mod Crossings
pub mod Rules
