pub mod Views
pub mod NearLemmas
