mod Counted
mod Faults
mod Loading
mod Plans
mod Numbering
