pub mod Looser
pub mod Open
