pub mod Machine
pub mod Text
pub mod Draft
pub mod Source
pub mod Reading
pub mod Bare
