use Rattle.std.proofs.Common.{◌≡◌, take}
use Rattle.tl_types.proofs.bytes.Bytes.refill.Given as goal

-- the bytes so far are appended
abbrev pub invariant-loop-byte : goal.invariant-loop-byte
invariant-loop-byte l = l.self ≡ take l.byte-index l.given
