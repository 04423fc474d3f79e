use Rattle.std.proofs.Common.{◌≡◌, ◌∙◌, ◌+◌, ◌-◌, ◌*◌, ◌%◌, ◌⊎◌, ◌<◌, ◌≤◌, ℕ, get_or, List, Option, None, inl, inr, ⊎_elim, refl, sym, ap, arith, length}
use Rattle.std.proofs.lemmas.Bool.{cases_lt}
use Rattle.std.proofs.lemmas.List.{get_or_past}
use Rattle.tl_types.specs.Bytes.{bit_in}
use Rattle.check_cells.specs.Bit.{given_bit}
use Rattle.check_cells.proofs.masks.give.Goals as goal

-- past the bytes that are given a word keeps its bits
kept : (old new given_at : ℕ → ℕ) (start top count : ℕ) (given : List (Option ℕ)) → count ≡ length given
    → ((lane : ℕ) → start % 8 + lane < 8
    → new (start + lane) ≡ given_bit (old (start + lane)) (get_or given (8 * 0 + lane) None))
    → ((place : ℕ) → (place < start) ⊎ (start + (8 - start % 8) ≤ place) → new place ≡ old place)
    → (place : ℕ) → (place < start) ⊎ (start + count ≤ place) → new place ≡ old place
kept old new given_at start top count given is inside outside place (inl before) = outside place (inl before)
kept old new given_at start top count given is inside outside place (inr past) =
    ⊎_elim
    (λ in_word.
    let e : start + (place - start) ≡ place = omega (arith, past) in
    let none : get_or given (8 * 0 + (place - start)) None ≡ None =
    get_or_past given (8 * 0 + (place - start)) None (omega (arith, past, is)) in
    ap new (sym e) ∙ inside (place - start) (omega (arith, in_word, past))
    ∙ ap (given_bit (old (start + (place - start)))) none ∙ ap old e)
    (λ beyond. outside place (inr beyond))
    (cases_lt place (start + (8 - start % 8)))

pub returns-then-width-le-WORD_BYTES-clause-outside : goal.returns-then-width-le-WORD_BYTES-clause-outside
returns-then-width-le-WORD_BYTES-clause-outside c =
    kept (bit_in c.args.masks.now) (bit_in c.give_word.new.masks) (λ n. n) c.args.start 0
    (length c.args.given.now) c.args.given.now refl c.give_word.ensures.inside c.give_word.ensures.outside

pub returns-then-width-le-WORD_BYTES-clause-inside : goal.returns-then-width-le-WORD_BYTES-clause-inside
returns-then-width-le-WORD_BYTES-clause-inside c = λ k below.
    let in_word : c.args.start % 8 + k < 8 = ⊎_elim
    (λ (small : length c.args.given.now < 8). omega (arith, below, c.requires.fits.cell small))
    (λ (big : 8 ≤ length c.args.given.now). omega
    (arith, below, c.requires.fits.whole_start big, c.if-width-le-WORD_BYTES.true, c.len-width.ensures.value))
    (cases_lt (length c.args.given.now) 8) in
    let at : 8 * 0 + k ≡ k = omega arith in
    c.give_word.ensures.inside k in_word
    ∙ ap (λ p. given_bit (bit_in c.args.masks.now (c.args.start + k)) (get_or c.args.given.now p None)) at

pub overflow_add-start : goal.overflow_add-start
overflow_add-start c = omega (arith, c.requires.limit, c.len-width.ensures.in_limit)

-- a word more
more : (old now new : ℕ → ℕ) (start k : ℕ) (given : List (Option ℕ)) → start % 8 ≡ 0
    → ((lane : ℕ) → (start + 8 * k) % 8 + lane < 8
    → new (start + 8 * k + lane) ≡ given_bit (now (start + 8 * k + lane)) (get_or given (8 * k + lane) None))
    → ((place : ℕ) → (place < start + 8 * k) ⊎ (start + 8 * k + (8 - (start + 8 * k) % 8) ≤ place)
    → new place ≡ now place)
    → ((j : ℕ) → j < 8 * k → now (start + j) ≡ given_bit (old (start + j)) (get_or given j None))
    → ((place : ℕ) → (place < start) ⊎ (start + 8 * k ≤ place) → now place ≡ old place)
    → ((j : ℕ) → j < 8 * (k + 1) → new (start + j) ≡ given_bit (old (start + j)) (get_or given j None))
    × ((place : ℕ) → (place < start) ⊎ (start + 8 * (k + 1) ≤ place) → new place ≡ old place)
more old now new start k given aligned inside outside done rest = (
  λ j below. ⊎_elim
      (λ before. outside (start + j) (inl (omega (arith, before))) ∙ done j before)
      (λ from.
      let e : start + 8 * k + (j - 8 * k) ≡ start + j = omega (arith, from) in
      let at : 8 * k + (j - 8 * k) ≡ j = omega (arith, from) in
      ap new (sym e) ∙ inside (j - 8 * k) (omega (arith, below, from, aligned))
      ∙ ap (λ p. given_bit (now p) (get_or given (8 * k + (j - 8 * k)) None)) e
      ∙ ap (λ p. given_bit (now (start + j)) (get_or given p None)) at
      ∙ ap (λ b. given_bit b (get_or given j None)) (rest (start + j) (inr (omega (arith, from)))))
      (cases_lt j (8 * k)),
  λ place where_. ⊎_elim
      (λ before. outside place (inl (omega (arith, before))) ∙ rest place (inl before))
      (λ past. outside place (inr (omega (arith, past, aligned))) ∙ rest place (inr (omega (arith, past))))
      where_,
)

pub loop-k-preserved : goal.loop-k-preserved
loop-k-preserved c =
    let aligned : c.args.start % 8 ≡ 0 =
    c.requires.fits.whole_start (omega (arith, c.if-width-le-WORD_BYTES.false, c.len-width.ensures.value)) in
    more (bit_in c.args.masks.now) (bit_in c.loop-k.masks)
    (bit_in c.give_word-in-loop-k.new.masks) c.args.start c.loop-k.k c.args.given.now aligned
    c.give_word-in-loop-k.ensures.inside c.give_word-in-loop-k.ensures.outside c.loop-k.invariant.0
    c.loop-k.invariant.1
