pub mod Book
pub mod Steps
pub mod Kept
