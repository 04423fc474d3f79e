use Rattle.tl_arena.specs.declared.account.HeldSlot.{HeldSlot}
use Rattle.tl_arena.specs.Account.{IsHeld}
use Rattle.tl_arena.proofs.Chosen.{Chosen}
use Rattle.tl_arena.proofs.account.held_slots.Given as goal

abbrev pub invariant-loop-slot : goal.invariant-loop-slot
invariant-loop-slot l = Chosen (λ (h : HeldSlot). h.slot) (IsHeld l.fn.words) l.slot l.held.items
