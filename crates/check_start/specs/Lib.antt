pub mod Slaves
pub mod Numbers
pub mod Start
pub mod Loads
