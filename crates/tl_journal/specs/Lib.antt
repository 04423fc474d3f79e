pub mod Pools
pub mod Headers
pub mod Journal
pub mod Trace
