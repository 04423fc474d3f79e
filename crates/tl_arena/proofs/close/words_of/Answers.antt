use Rattle.std.proofs.Common.{ℕ, List, [], ◌∷◌, ◌++◌, sym, ap, ◌∙◌}
use Rattle.std.specs.Mem.Slots.{slots_items}
use Rattle.tl_arena.proofs.Closing.{word_next}
use Rattle.tl_arena.proofs.close.words_of.Goals as goal

pub loop-place-preserved : goal.loop-place-preserved
loop-place-preserved c =
    c.in_ok-push.ensures.items ∙ ap (λ (l : List ℕ). l ++ c.word.result ∷ []) c.loop-place.invariant
    ∙ sym (word_next (slots_items c.args.closed.now.words) c.args.from c.loop-place.place c.word.result c.word.ensures)
