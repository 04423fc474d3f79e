use Rattle.tl_beats.proofs.ReplyOnly.{same_reply}
use Rattle.tl_beats.proofs.laws.beats_spell_one_reply.Goals as goal

pub returns : goal.returns
returns c = same_reply
