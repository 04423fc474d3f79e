-- The bytes so far are told.
use Rattle.std.proofs.Common.{◌≡◌, map}
use lib.Seq.{paste}
use Rattle.tl_c.specs.Wire.{known_number}
use Rattle.tl_c.proofs.wire.tell_known.Given as goal

abbrev pub invariant-loop-place : goal.invariant-loop-place
invariant-loop-place l = l.flags ≡ paste l.initial.flags 0 (map known_number l.cells) l.place
