use Rattle.tl_map.proofs.LawfulBlocks.{blocks_lawful}
use Rattle.tl_map.proofs.laws.blocks_are_lawful.Goals as goal

pub returns : goal.returns
returns c = blocks_lawful
