pub mod Numbers
pub mod Buses
pub mod Words
pub mod Lanes
pub mod ColumnLemmas
pub mod RowLemmas
pub mod ReadLemmas
