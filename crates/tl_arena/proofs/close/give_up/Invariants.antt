use Rattle.std.proofs.Common.{◌≡◌, ℕ, ◌<◌, false, get_or}
use Rattle.std.specs.Mem.Slots.{slots_filled, slots_len}
use Rattle.std.specs.Mem.Slots.Ownership.{Filled}
use Rattle.tl_arena.proofs.close.give_up.Given as goal

-- the slots so far are taken, and the others are full
abbrev pub invariant-loop-slot : goal.invariant-loop-slot
invariant-loop-slot l = record {
  filled : Filled (slots_filled l.closed.slots) l.slot (slots_len l.closed.slots);
  taken : (k : ℕ) → k < l.slot → get_or (slots_filled l.closed.slots) k false ≡ false;
  long : slots_len l.closed.slots ≡ slots_len l.initial.closed.slots;
}
