use Rattle.check_text_laws.proofs.Parts.{earlier_is_lawful}
use Rattle.check_text_laws.proofs.groups.a_beginning_is_lawful.Goals as goal

pub returns : goal.returns
returns c = earlier_is_lawful
