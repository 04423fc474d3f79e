pub mod Name
pub mod Number
pub mod Reading
pub mod Text
pub mod Word
