-- As many parts as there are columns, or not.
use Rattle.std.proofs.Common.{◌≡◌, ◌∙◌, ◌++◌, ◌∷◌, [], List, ℕ, length, map, take, sym, ap, arith, length-append}
use Rattle.check_rows.specs.Column.{column_parts}
use Rattle.check_rows.proofs.ColumnLemmas.{length-words, some-part, words-all}
use Rattle.check_rows.proofs.column.cut_line.Goals as goal

pub returns-in-Some-clause-none : goal.returns-in-Some-clause-none
returns-in-Some-clause-none c = λ is.
    let words = c.loop-place.words in
    let i = c.loop-place.place in
    let size = c.loop-place.invariant.size in
    let low = c.loop-place-test.false in
    let high = c.loop-place.auto.place-end in
    let found = map (λ word. word.now) (take i words) in
    let before : length found ≡ i = length-words words i (omega (arith, size, high)) in
    let all = ap (λ (xs : List (List ℕ)). length xs) c.loop-place.invariant.parts
    ∙ length-append found (column_parts c.loop-place.rest.now) in
    let more = ap (λ (xs : List (List ℕ)). length xs) c.in-Some.ensures.some in
    let some = some-part c.in-Some.field-0.1.now in
    omega (arith, is, before, all, more, some, low)

pub returns-in-None-clause-some : goal.returns-in-None-clause-some
returns-in-None-clause-some c =
    let words = c.loop-place.words in
    let i = c.loop-place.place in
    let size = c.loop-place.invariant.size in
    let low = c.loop-place-test.false in
    let high = c.loop-place.auto.place-end in
    let last : i ≡ 11 = omega (arith, low, high) in
    words-all words 11 c.loop-place.rest (sym size)
    ∙ ap (λ (n : ℕ). map (λ word. word.now) (take n words) ++ c.loop-place.rest.now ∷ []) (sym last)
    ∙ ap (λ (xs : List (List ℕ)). map (λ word. word.now) (take i words) ++ xs) (sym c.in-None.ensures.none)
    ∙ sym c.loop-place.invariant.parts
