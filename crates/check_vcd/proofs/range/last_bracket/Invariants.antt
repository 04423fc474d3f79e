-- The last bracket of the bytes to come, or the one that was found, is the last of all.
use Rattle.std.proofs.Common.{◌≡◌, ◌<◌, drop, None}
use Rattle.std.specs.Option.{IfSome}
use Rattle.check_vcd.specs.Range.{last_from}
use Rattle.check_vcd.proofs.range.last_bracket.Given as goal

abbrev pub invariant-loop-at : goal.invariant-loop-at
invariant-loop-at l = record {
  same : last_from l.at l.found (drop l.at l.text) ≡ last_from 0 None l.text;
  below : IfSome l.found (λ place. place < l.at);
}
