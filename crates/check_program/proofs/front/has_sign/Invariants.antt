-- All bytes so far are blank.
use Rattle.std.proofs.Common.{◌≡◌, drop}
use Rattle.check_program.specs.Front.{has_sign}
use Rattle.check_program.proofs.front.has_sign.Given as goal

abbrev pub invariant-loop-byte : goal.invariant-loop-byte
invariant-loop-byte l = has_sign (drop l.byte-index l.text) ≡ has_sign l.text
