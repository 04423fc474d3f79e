pub mod Plan
pub mod Groups
pub mod Lawful
pub mod Flights
pub mod View
pub mod Reset
pub mod Pending
pub mod Steps
