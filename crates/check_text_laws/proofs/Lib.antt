mod Lanes
pub mod Parts
pub mod Watched
pub mod GroupRules
pub mod Across
pub mod Rules
pub mod Finding
pub mod Kept
pub mod Rows
pub mod Numbers
pub mod Sums
pub mod Adding
pub mod Meeting
pub mod Apart
pub mod Heads
pub mod Uncontested
pub mod Passing
