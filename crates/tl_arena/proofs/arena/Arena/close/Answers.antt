use Rattle.std.proofs.Common.{◌≡◌, ℕ, ◌+◌, List, length, take, drop, sym, ap, subst, ◌∙◌, arith}
use Rattle.std.specs.Mem.Slots.{slots_items, slots_counts}
use Rattle.tl_rule.specs.declared.view.About.{About}
use Rattle.tl_rule.specs.Rule.{Fits}
use Rattle.tl_arena.specs.Key.{about_in}
use Rattle.tl_arena.specs.Views.{ArenaId}
use Rattle.tl_arena.specs.Account.{IsAccountOf}
use Rattle.tl_arena.proofs.Closing.{closing, words_split, taken_length, dropped_length}
use Rattle.tl_arena.proofs.arena.Arena.close.Goals as goal

pub returns : goal.returns
returns c =
    let last = c.close-closed.ensures.values.2 in
    let words = c.close-closed.result.words in
    let ws = slots_items words in
    let n = c.self.inside.slots in
    let m = c.self.inside.masters in
    let account = c.in_ok-account_of_words.field-0 in
    let kept = c.self.invariant in
    let about : about_in c.self.inside.table.shared.key ≡ c.args.self.about =
    ap (λ (a : ArenaId). a.about) c.self.view_is in
    let counted = slots_counts words in
    let long : length ws ≡ n + m = sym counted.0 ∙ c.close-closed.ensures.counts.0 ∙ kept.table_words in
    let slots_are : c.deref.result.now ≡ take n ws = c.deref.ensures.value ∙ c.in_ok-slot_words.ensures in
    let leaves_are : c.deref-2.result.now ≡ take m (drop n ws) =
    c.deref-2.ensures.value ∙ c.in_ok-leave_words.ensures in
    record {
      account = closing c.args.self.about last.0 (take n ws)
          (take m (drop n ws)) account.free.items account.held.items account.left.items
          (subst (λ (a : About). Fits a last.0) about last.1) (last.2 ∙ words_split ws n m long)
          (taken_length ws n (omega (arith, long)) ∙ sym kept.slots_are ∙ ap (λ (a : About). a.slots) about)
          (dropped_length ws n m long ∙ sym kept.masters_are ∙ ap (λ (a : About). a.masters) about)
          (subst (λ (l : List ℕ). IsAccountOf
          (take n ws) l account.free.items account.held.items account.left.items) leaves_are
          (subst (λ (l : List ℕ). IsAccountOf l c.deref-2.result.now account.free.items account.held.items account.left.items) slots_are c.in_ok-account_of_words.ensures));
    }
