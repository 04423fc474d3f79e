-- What a caller says of the judge that it hands over, and of what this has covered.
pub use Rattle.check_review.specs.Order.{are_masters_watched, are_ports_watched}
pub use Rattle.check_review.specs.View.{Judges, is_asked, is_covered, is_traced}
pub use Rattle.check_review.specs.Covered.{AppendsCoverage, HasCovered}
pub use Rattle.check_review.specs.Stretches.{Stretches}
pub use Rattle.check_review.specs.declared.judge.Judge.{Judge}
pub use Rattle.check_review.specs.declared.tally.Tally.{Tally}
