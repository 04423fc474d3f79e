pub mod Counted
pub mod Naming
pub mod Spelled
pub mod Joined
pub mod Growing
