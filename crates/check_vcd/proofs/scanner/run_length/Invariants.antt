-- No byte so far is a blank.
use Rattle.std.proofs.Common.{◌≡◌, take, true}
use Rattle.check_vcd.specs.Words.{are_letters}
use Rattle.check_vcd.proofs.scanner.run_length.Given as goal

abbrev pub invariant-loop-count : goal.invariant-loop-count
invariant-loop-count l = are_letters (take l.count l.text) ≡ true
