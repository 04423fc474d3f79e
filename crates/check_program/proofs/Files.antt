-- A system file that names parts is within the limit.
use Rattle.std.proofs.Common.{◌≡◌, ℕ, ◌≤◌, List, length, Ok, arith}
use Rattle.std.proofs.lemmas.Bool.Decides.{nat_tests}
use Rattle.check_description.specs.File.{Parts, parts_of, document_of}
use Rattle.check_description.specs.declared.read.TheConstants.{MAX_SYSTEM}

pub length-named : (bytes : List ℕ) (parts : Parts) → parts_of bytes ≡ Ok parts → length bytes ≤ MAX_SYSTEM
unfolding document_of
length-named bytes parts e = grind (arith, nat_tests)
