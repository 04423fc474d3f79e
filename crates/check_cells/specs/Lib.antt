pub mod Known
pub mod Bit
pub mod Room
pub mod Marks
pub mod Pattern
pub mod Sent
