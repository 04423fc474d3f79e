-- The digits so far were appended.
use Rattle.std.proofs.Common.{◌≡◌, ◌++◌, map, take}
use Rattle.check_vcd.specs.Token.{plain_digit}
use Rattle.check_vcd.proofs.body.push_plain.Given as goal

abbrev pub invariant-loop-digit : goal.invariant-loop-digit
invariant-loop-digit l = l.value.items ≡ l.fn.value.items ++ map plain_digit (take l.digit-index l.digits)
