pub mod Views
pub mod LinkLemmas
pub mod WidthLemmas
