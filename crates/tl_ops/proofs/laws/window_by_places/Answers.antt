use Rattle.tl_ops.proofs.Places.{window_by_places}
use Rattle.tl_ops.proofs.laws.window_by_places.Goals as goal

pub returns : goal.returns
returns c = window_by_places
