pub mod Counted
pub mod Exact
mod Telling
