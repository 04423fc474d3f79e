pub mod Beats
pub mod Instance
