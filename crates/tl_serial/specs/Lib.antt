pub mod Serial
pub mod Slave
pub mod Text
pub mod Exact
