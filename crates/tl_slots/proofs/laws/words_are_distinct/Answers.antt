use Rattle.tl_slots.proofs.Words.{word-injective}
use Rattle.tl_slots.proofs.laws.words_are_distinct.Goals as goal

pub returns : goal.returns
returns c = word-injective
