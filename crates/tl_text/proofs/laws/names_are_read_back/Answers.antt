use Rattle.tl_text.proofs.NameLemmas.{name_of-word_of}
use Rattle.tl_text.proofs.laws.names_are_read_back.Goals as goal

pub returns : goal.returns
returns c = name_of-word_of
