pub mod ValueLemmas
pub mod RowsLemmas
pub mod TakeLemmas
pub mod LeftLemmas
pub mod WatchedLemmas
pub mod BitLemmas
pub mod Plain
pub mod DueLemmas
