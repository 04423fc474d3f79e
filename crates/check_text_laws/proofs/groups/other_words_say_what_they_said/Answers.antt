use Rattle.check_text_laws.proofs.Parts.{with_others}
use Rattle.check_text_laws.proofs.groups.other_words_say_what_they_said.Goals as goal

pub returns : goal.returns
returns c = with_others
