mod Pairs
mod Cells
mod Counting
mod Ordering
mod Entries
mod Judging
pub mod Reader
mod Rows
