pub mod Fault
pub mod Out
pub mod Links
pub mod Capture
pub mod Options
