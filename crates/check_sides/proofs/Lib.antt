mod Outcomes
mod Setting
mod Puts
mod Opening
mod Alone
mod PortSteps
mod Telling
pub mod Grouping
mod Keeping
pub mod Fresh
mod Restarting
mod Changes
pub mod OneReset
