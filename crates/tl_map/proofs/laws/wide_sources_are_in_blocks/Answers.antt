use Rattle.tl_map.proofs.BlockFacts.{in_block}
use Rattle.tl_map.proofs.laws.wide_sources_are_in_blocks.Goals as goal

pub returns : goal.returns
returns c = in_block
