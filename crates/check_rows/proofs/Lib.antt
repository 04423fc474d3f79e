pub mod Digits
pub mod Numbers
pub mod Shown
pub mod ColumnLemmas
pub mod MomentLemmas
pub mod FrontLemmas
