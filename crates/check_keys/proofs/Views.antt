-- Values beside the data that they stand for, as with scripts.
pub use Rattle.tl_script.proofs.Views.{list_of-view}

pub ruleset array_laws = (list_of-view)
