pub mod Model
pub mod Bytes
pub mod Calls
