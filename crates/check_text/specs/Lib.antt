pub mod Fault
pub mod Out
pub mod Buses
pub mod Rows
pub mod Capture
pub mod Review
