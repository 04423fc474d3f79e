use Rattle.check_scripts.proofs.ScriptLemmas.{names_same}
use Rattle.check_scripts.proofs.scripts.a_script_names_the_same_parts.Goals as goal

pub returns : goal.returns
returns c = names_same
