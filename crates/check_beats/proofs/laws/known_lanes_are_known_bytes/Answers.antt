use Rattle.check_beats.proofs.Past.{known_lanes_are_known_bytes as known_are}
use Rattle.check_beats.proofs.laws.known_lanes_are_known_bytes.Goals as goal

pub returns : goal.returns
returns c = known_are
