pub mod Order
pub mod PortSlave
pub mod Flight
pub mod Crossing
pub mod Side
pub mod Laws
