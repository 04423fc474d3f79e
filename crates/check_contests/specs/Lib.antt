pub mod Writes
pub mod Contests
pub mod Cut
pub mod Sent
pub mod Moments
pub mod Below
pub mod Laws
