pub mod Turns
pub mod Lawful
pub mod View
pub mod Steps
