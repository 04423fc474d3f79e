use Rattle.tl_map.proofs.Kept.{one_wide}
use Rattle.tl_map.proofs.laws.wide_source_is_one.Goals as goal

pub returns : goal.returns
returns c = one_wide
