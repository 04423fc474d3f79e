pub mod Ports
pub mod ScriptLemmas
pub mod Mapped
pub mod Requests
pub mod Replies
