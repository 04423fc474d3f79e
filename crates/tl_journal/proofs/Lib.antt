pub mod Pooled
pub mod Room
pub mod Placed
