use Rattle.tl_script.proofs.Counts.{low}
use Rattle.tl_script.proofs.laws.wide_sources_are_low.Goals as goal

pub returns : goal.returns
returns c = low
