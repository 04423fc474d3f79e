-- The channels so far, and those of the rest, are those of all.
use Rattle.std.proofs.Common.{◌≡◌, ◌++◌, drop, map}
use Rattle.check_signals.proofs.links.push_replies.Given as goal

abbrev pub invariant-loop-pair : goal.invariant-loop-pair
invariant-loop-pair l =
    l.channels.items ++ map (λ pair. pair.1) (drop l.pair-index l.pairs)
    ≡ l.fn.channels.items ++ map (λ pair. pair.1) l.pairs
