-- If all digits so far are 0 or 1, all are plain if those to come are.
use Rattle.std.proofs.Common.{◌≡◌, true, drop}
use Rattle.check_vcd.specs.Token.{are_plain}
use Rattle.check_vcd.proofs.token.are_binary.Given as goal

abbrev pub invariant-loop-digit : goal.invariant-loop-digit
invariant-loop-digit l = l.all ≡ true → are_plain (drop l.digit-index l.digits) ≡ are_plain l.digits
