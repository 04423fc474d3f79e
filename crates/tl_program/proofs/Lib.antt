pub mod Failing
mod OneThread
mod Slots
pub mod Whole
