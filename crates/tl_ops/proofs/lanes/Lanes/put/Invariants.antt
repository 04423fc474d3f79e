use Rattle.std.proofs.Common.{◌≡◌, ◌*◌, length, take, drop}
use Rattle.tl_ops.specs.Store.{with_window}
use Rattle.tl_ops.specs.Window.{merged}
use Rattle.tl_ops.proofs.lanes.Lanes.put.Given as goal

-- the words so far are put
abbrev pub invariant-loop-k : goal.invariant-loop-k
invariant-loop-k l =
    (l.self ≡ with_window l.initial.self l.start
    (merged (take (8 * l.k) (drop l.start l.initial.self)) (take (8 * l.k) l.given)))
    × (length l.self ≡ length l.initial.self)
