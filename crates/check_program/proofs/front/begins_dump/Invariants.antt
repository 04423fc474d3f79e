-- All bytes so far are blank.
use Rattle.std.proofs.Common.{◌≡◌, drop}
use Rattle.check_program.specs.Front.{begins_dump}
use Rattle.check_program.proofs.front.begins_dump.Given as goal

abbrev pub invariant-loop-byte : goal.invariant-loop-byte
invariant-loop-byte l = begins_dump (drop l.byte-index l.text) ≡ begins_dump l.text
