pub mod Lawful
pub mod Turns
