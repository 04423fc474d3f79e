pub mod Views
pub mod Promises
pub mod Account
pub mod Key
pub mod Kept
