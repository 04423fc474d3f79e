pub mod Master
pub mod Steps
pub mod SourceSet
pub mod Kept
