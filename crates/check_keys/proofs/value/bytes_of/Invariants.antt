-- The bytes so far, and those of the rest, are the bytes of the text.
use Rattle.std.proofs.Common.{◌≡◌, ◌++◌, length, option_map}
use Rattle.tl_script.specs.Port.{pairs_of}
use Rattle.check_keys.proofs.value.bytes_of.Given as goal

abbrev pub invariant-loop-rest : goal.invariant-loop-rest
invariant-loop-rest l = option_map (λ more. l.bytes.items ++ more) (pairs_of l.rest) ≡ pairs_of l.text

abbrev pub decreases-loop-rest : goal.decreases-loop-rest
decreases-loop-rest l = length l.rest
