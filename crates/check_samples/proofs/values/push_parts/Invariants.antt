-- The digits so far, and those of the parts to come, are those of all.
use Rattle.std.proofs.Common.{◌≡◌, ◌++◌, drop, map}
use Rattle.check_samples.specs.Digits.{joined_of}
use Rattle.check_samples.proofs.values.push_parts.Given as goal

abbrev pub invariant-loop-tap : goal.invariant-loop-tap
invariant-loop-tap l =
    let values = map (λ slot. slot.digits.items) l.slots in
    l.digits.items ++ joined_of values (drop l.tap-index l.parts) ≡ l.fn.digits.items ++ joined_of values l.parts
