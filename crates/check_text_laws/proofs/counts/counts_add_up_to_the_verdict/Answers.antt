use Rattle.check_text_laws.proofs.Adding.{answered_add_up, asked_add_up}
use Rattle.check_text_laws.proofs.counts.counts_add_up_to_the_verdict.Goals as goal

pub returns-clause-asked : goal.returns-clause-asked
returns-clause-asked c plan file counts old new has few tells = asked_add_up plan file counts old new has few tells

pub returns-clause-answered : goal.returns-clause-answered
returns-clause-answered c plan file counts old new has few lawful tells =
    answered_add_up plan file counts old new has few tells lawful
