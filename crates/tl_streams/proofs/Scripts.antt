-- A script that names parts is within the limit.
use Rattle.std.proofs.Common.{◌≡◌, ℕ, ◌≤◌, List, length, Ok, arith}
use Rattle.std.proofs.lemmas.Bool.Decides.{nat_tests}
use Rattle.tl_script.specs.Script.{ScriptParts, script_parts, script_document}
use Rattle.tl_script.specs.declared.script.TheConstants.{MAX_SCRIPT}

pub length-named : (bytes : List ℕ) (parts : ScriptParts) → script_parts bytes ≡ Ok parts → length bytes ≤ MAX_SCRIPT
unfolding script_document
length-named bytes parts e = grind (arith, nat_tests)
