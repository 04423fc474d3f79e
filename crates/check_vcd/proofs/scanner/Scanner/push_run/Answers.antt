-- The front has the bytes, or as many of them as are kept.
use Rattle.std.proofs.Common.{◌≡◌, ◌∙◌, ◌+◌, ◌-◌, ◌++◌, ℕ, List, ap, ap₂, length, rules, sym, take}
use Rattle.std.specs.Prelude.{min, slice_range}
use Rattle.check_vcd.specs.Scanner.{at_hand, front}
use Rattle.check_vcd.specs.Words.{Front}
use Rattle.check_vcd.specs.declared.scanner.TheConstants.{MAX_WORD}
use Rattle.check_vcd.proofs.RunLemmas.{hand-front, hand-length, with-run}
use Rattle.check_vcd.proofs.scanner.Scanner.push_run.Goals as goal

pub returns-clause-front : goal.returns-clause-front
returns-clause-front g c =
    let old = c.args.self.now in
    let count = c.args.count in
    let run = take count (at_hand old) in
    let most : c.min-kept.result ≡ min count (MAX_WORD - length old.word.items) = search rules in
    let items = c.in_ok-extend_from_slice.ensures.items
    ∙ ap₂ (λ (xs : List ℕ) (n : ℕ). old.word.items ++ slice_range xs old.next (old.next + n)) c.deref.ensures.value most in
    let kept = hand-front old.chunk.items old.next old.filled count (MAX_WORD - length old.word.items) c.requires in
    let sum : c.in_ok-self.field-0 ≡ old.size + count = search rules in
    let size = sum ∙ ap (λ (n : ℕ). old.size + n)
    (sym (hand-length old.chunk.items old.next old.filled count c.requires (search rules))) in
    ap₂ (λ (b : List ℕ) (n : ℕ). let f : Front = record { bytes = b; size = n } in f)
    (items ∙ ap (λ (l : List ℕ). old.word.items ++ l) kept) size
    ∙ sym (with-run (front old) run)
