use Rattle.tl_beats.proofs.Lanes.{active_lanes_are_set}
use Rattle.tl_beats.proofs.laws.mask_sets_active_lanes.Goals as goal

pub returns : goal.returns
returns c = active_lanes_are_set
