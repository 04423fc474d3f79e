pub mod Names
pub mod Reply
pub mod Sent
pub mod Target
pub mod Trace
pub mod Verdict
