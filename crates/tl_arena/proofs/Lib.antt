pub mod Chosen
pub mod Closing
pub mod Crossing
pub mod Dealt
pub mod Keeping
pub mod Promised
