use Rattle.std.proofs.Common.{rules, ◌+◌, slice_index_or, sym, subst, Vec, Global}
use Rattle.tl_arena.specs.declared.account.HeldSlot.{HeldSlot}
use Rattle.tl_arena.specs.Account.{IsHeld}
use Rattle.tl_arena.proofs.Chosen.{Chosen, HoldsJust, held_taken, held_skipped, held_all}
use Rattle.tl_arena.proofs.account.held_slots.Goals.{in-Some+in_ok-push, in_default}
use Rattle.tl_arena.proofs.account.held_slots.Goals as goal

pub loop-slot-preserved : goal.loop-slot-preserved
loop-slot-preserved c = elim c.match-holder.branch [
  | in-Some+in_ok-push w ↦ held_taken c.args.words.now c.loop-slot.held.items c.match-holder.held.items c.loop-slot.slot w.in-Some.master c.loop-slot.invariant c.loop-slot-test.true
      (subst (HoldsJust (slice_index_or c.args.words.now c.loop-slot.slot 0)) w.in-Some.is c.holder.ensures)
      (search rules)
  | in_default w ↦ subst (λ (v : Vec HeldSlot Global). Chosen (λ (h : HeldSlot). h.slot) (IsHeld c.args.words.now)
      (c.loop-slot.slot + 1) v.items) (sym w.held-is)
      (held_skipped c.args.words.now c.loop-slot.held.items c.loop-slot.slot c.loop-slot.invariant c.loop-slot-test.true
      (subst (HoldsJust (slice_index_or c.args.words.now c.loop-slot.slot 0)) w.in_default.is c.holder.ensures))
]

pub returns-clause-just : goal.returns-clause-just
returns-clause-just c =
    held_all c.args.words.now c.loop-slot.held.items c.loop-slot.slot c.loop-slot.invariant c.loop-slot-test.false
