pub mod Fault
pub mod List
pub mod Operation
pub mod Wire
pub mod Bytes
pub mod Request
pub mod Response
