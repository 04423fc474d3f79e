use Rattle.check_model.proofs.Poking.{poked_is_seen}
use Rattle.check_model.proofs.laws.poked_byte_is_seen.Goals as goal

pub returns : goal.returns
returns c = poked_is_seen
