mod Cuts
pub mod Fresh
pub mod Served
pub mod Same
pub mod Known
mod Given
