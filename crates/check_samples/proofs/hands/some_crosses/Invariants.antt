-- Whether valid and ready are 1 of one of the channels to come says it of all.
use Rattle.std.proofs.Common.{◌≡◌, drop}
use Rattle.check_samples.specs.Rows.{some_crosses}
use Rattle.check_samples.specs.Values.{all_before}
use Rattle.check_samples.proofs.hands.some_crosses.Given as goal

abbrev pub invariant-loop-channel : goal.invariant-loop-channel
invariant-loop-channel l =
    some_crosses l.place (all_before l.values) (drop l.channel-index l.channels)
    ≡ some_crosses l.place (all_before l.values) l.channels
