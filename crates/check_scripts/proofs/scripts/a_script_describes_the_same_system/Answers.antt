use Rattle.check_scripts.proofs.ScriptLemmas.{system_same}
use Rattle.check_scripts.proofs.scripts.a_script_describes_the_same_system.Goals as goal

pub returns : goal.returns
returns c = system_same
