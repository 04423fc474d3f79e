mod Turning
pub mod Judging
mod Ordering
