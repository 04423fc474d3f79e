pub mod Fault
pub mod Engine
pub mod OneThread
pub mod Run
