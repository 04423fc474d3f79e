pub mod Bits
pub mod Crossing
pub mod Hands
pub mod Keeping
pub mod Turns
pub mod Starting
pub mod Ending
pub mod Busy
