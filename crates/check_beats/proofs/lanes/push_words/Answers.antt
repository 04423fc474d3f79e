use Rattle.std.proofs.Common.{◌≡◌, ◌∙◌, ℕ, ◌+◌, ◌-◌, ◌*◌, ◌++◌, List, Option, Some, take, drop, ap, sym, arith, append_assoc}
use Rattle.std.specs.Prelude.{map}
use Rattle.std.proofs.Math.Seq.{take-add}
use Rattle.std.proofs.lemmas.List.{map-append}
use Rattle.check_beats.proofs.lanes.push_words.Goals as goal

pub loop-word-preserved : goal.loop-word-preserved
loop-word-preserved c =
    let words = c.args.words.now in
    let bytes = c.args.bytes.now in
    let place = 8 * c.loop-word.word in
    let f : ℕ → Option ℕ = λ (byte : ℕ). Some byte in
    let piece : place + 8 - place ≡ 8 = omega arith in
    let row : 8 * (c.loop-word.word + 1) ≡ place + 8 = omega arith in
    let front : take (8 * (c.loop-word.word + 1)) words ≡ take place words ++ take 8 (drop place words) = ap (λ n. take n words) row ∙ take-add place 8 words in
    (rw piece at c.push_given.ensures) ∙ ap (λ (b : List (Option ℕ)). b ++ map f (take 8 (drop place words))) c.loop-word.invariant
    ∙ append_assoc bytes (map f (take place words)) (map f (take 8 (drop place words)))
    ∙ ap (λ (b : List (Option ℕ)). bytes ++ b) (sym (map-append f (take place words) (take 8 (drop place words))) ∙ ap (λ (b : List ℕ). map f b) (sym front))
