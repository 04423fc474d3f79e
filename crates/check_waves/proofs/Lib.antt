pub mod Header
pub mod OutLemmas
pub mod DueLemmas
pub mod OpenLemmas
