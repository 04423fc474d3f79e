-- The bytes so far are told.
use Rattle.std.proofs.Common.{◌≡◌, map}
use lib.Seq.{paste}
use Rattle.tl_c.specs.Wire.{told_byte}
use Rattle.tl_c.proofs.wire.tell_bytes.Given as goal

abbrev pub invariant-loop-place : goal.invariant-loop-place
invariant-loop-place l = l.bytes ≡ paste l.initial.bytes 0 (map told_byte l.cells) l.place
