pub mod Bytes
pub mod Places
pub mod Lawful
pub mod Owners
pub mod Adding
pub mod Noted
pub mod Covered
pub mod Numbers
