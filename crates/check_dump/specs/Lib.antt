pub mod Lines
pub mod Replay
