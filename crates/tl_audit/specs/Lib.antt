pub mod Agrees
pub mod Marks
pub mod Order
pub mod Reader
