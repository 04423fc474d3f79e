use Rattle.std.proofs.Common.{◌≡◌, take, drop}
use Rattle.std.specs.Mem.Slots.{slots_items}
use Rattle.tl_arena.proofs.close.words_of.Given as goal

abbrev pub invariant-loop-place : goal.invariant-loop-place
invariant-loop-place l = l.words.items ≡ take l.place (drop l.fn.from (slots_items l.fn.closed.words))
