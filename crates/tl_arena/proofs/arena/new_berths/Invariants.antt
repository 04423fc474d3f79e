use Rattle.std.proofs.Common.{◌≡◌, length, All, IsSome}
use Rattle.tl_arena.proofs.arena.new_berths.Given as goal

abbrev pub invariant-loop-slot : goal.invariant-loop-slot
invariant-loop-slot l =
    record { many : length l.berths.items ≡ l._slot; there : All (λ berth. IsSome berth) l.berths.items }
