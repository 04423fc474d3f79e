use Rattle.tl_map.proofs.BlockFacts.{one_list}
use Rattle.tl_map.proofs.laws.blocks_are_one.Goals as goal

pub returns : goal.returns
returns c = one_list
