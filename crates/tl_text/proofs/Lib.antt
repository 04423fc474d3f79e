pub mod NumberLemmas
pub mod WordLemmas
pub mod NameLemmas
pub mod TextLemmas
