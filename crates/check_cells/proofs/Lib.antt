pub mod Bits
pub mod Lanes
pub mod Written
pub mod Marking
pub mod Seen
pub mod KeptParts
