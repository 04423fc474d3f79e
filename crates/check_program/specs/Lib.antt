pub mod Images
pub mod Program
pub mod Fault
pub mod System
pub mod Engine
pub mod Front
pub mod Dump
pub mod Mirrors
