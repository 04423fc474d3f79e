pub mod Given
pub mod Lists
pub mod Masks
pub mod Operations
pub mod Words
pub mod Zipped
