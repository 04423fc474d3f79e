pub mod Bell
pub mod Context
pub mod Trace
pub mod Start
