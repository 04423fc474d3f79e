use Rattle.tl_map.proofs.Counted.{in_a_row}
use Rattle.tl_map.proofs.laws.blocks_are_rows.Goals as goal

pub returns : goal.returns
returns c = in_a_row
