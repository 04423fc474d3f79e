pub mod Key
pub mod Reading
pub mod Value
pub mod Name
pub mod Bus
pub mod Nearest
pub mod Known
