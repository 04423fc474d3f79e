use Rattle.tl_beats.proofs.Only.{same_ask}
use Rattle.tl_beats.proofs.laws.beats_spell_one_ask.Goals as goal

pub returns : goal.returns
returns c = same_ask
