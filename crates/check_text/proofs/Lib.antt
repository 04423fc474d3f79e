mod HeaderLemmas
pub mod OutLemmas
mod Taking
mod Answering
mod Fitting
mod Stopped
