use Rattle.tl_slots.proofs.Words.{word-number, word-master, word-port, word_below}
use Rattle.tl_slots.proofs.laws.parts_of_words.Goals as goal

pub returns : goal.returns
returns c = record { number = word-number; master = word-master; port = word-port; in_range = word_below }
