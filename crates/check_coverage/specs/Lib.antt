pub mod Shape
pub mod Ranges
pub mod Flights
pub mod Times
pub mod Latest
pub mod Mirrors
pub mod Bins
pub mod View
