pub mod Routed
pub mod Arrivals
pub mod Asking
pub mod Rows
pub mod Cuts
