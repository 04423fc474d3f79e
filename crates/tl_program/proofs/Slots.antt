-- The free slots and the held ones are all slots.
use Rattle.std.proofs.Common.{◌≡◌, ◌≢◌, ℕ, zero, suc, ◌+◌, ◌<◌, ◌≤◌, ◌⊎◌, ⊎_elim, inl, inr, List, [], ◌∷◌, length, map, get_or, Contains, refl, sym, ap, subst, ◌∙◌, arith}
use Rattle.std.proofs.lemmas.List.{length-map, get_or-map, get_or_default}
use Rattle.std.proofs.lemmas.Option.{slice_get_within}
use Rattle.tl_rule.specs.declared.view.About.{About}
use Rattle.tl_arena.specs.declared.account.HeldSlot.{HeldSlot}
use Rattle.tl_arena.specs.Account.{IsClosing, IsRisingBy}

-- ---- numbers that rise

-- the numbers rise, and the first is this one at least
abbrev RisesFrom : ℕ → List ℕ → Type 0
RisesFrom from [] = Unit {0}
RisesFrom from (x ∷ xs) = (from ≤ x) × RisesFrom (x + 1) xs

shifted : (x : ℕ) (xs : List ℕ) (i : ℕ) → Contains xs i → Contains (x ∷ xs) i
shifted x xs i c = (suc c.0, (let inside = c.1 in omega arith), c.2)

in_tail : (x : ℕ) (xs : List ℕ) (i k : ℕ) → k < length (x ∷ xs) → get_or (x ∷ xs) k i ≡ i → x ≢ i → Contains xs i
in_tail x xs i zero inside at other = absurd (other at)
in_tail x xs i (suc k) inside at other = (k, omega arith, at)

rises : (from : ℕ) (xs : List ℕ) → IsRisingBy (λ (i : ℕ). i) xs → ((i : ℕ) → Contains xs i → from ≤ i)
    → RisesFrom from xs
rises from [] pairs low = tt
rises from (x ∷ xs) pairs low = (
  low x (0, omega arith, refl),
  rises (x + 1) xs (λ i j d before inside. pairs (suc i) (suc j) d (omega arith) (omega arith))
      (λ i c. let inside = c.1 in let same = c.2 in let less = pairs 0 (suc c.0) i (omega arith) (omega arith) in
      omega arith),
)

low_at : (from : ℕ) (xs : List ℕ) → RisesFrom from xs → (i k : ℕ) → k < length xs → get_or xs k i ≡ i → from ≤ i
low_at from [] r i k inside at = absurd (omega arith)
low_at from (x ∷ xs) r i zero inside at = let low = r.0 in omega arith
low_at from (x ∷ xs) r i (suc k) inside at = let low = r.0 in let later = low_at (x + 1) xs r.1 i k (omega arith) at in
    omega arith

-- what is least in the list stands first
first_is : (from x : ℕ) (xs : List ℕ) → RisesFrom from (x ∷ xs) → (k : ℕ) → k < length (x ∷ xs)
    → get_or (x ∷ xs) k from ≡ from → x ≡ from
first_is from x xs r zero inside at = at
first_is from x xs r (suc k) inside at = let low = r.0 in let later = low_at (x + 1) xs r.1 from k (omega arith) at in
    absurd (omega arith)

raised : (from : ℕ) (xs : List ℕ) → RisesFrom from xs → (Contains xs from → ⊥) → RisesFrom (from + 1) xs
raised from [] r none = tt
raised from (x ∷ xs) r none =
    (let low = r.0 in let other : x ≢ from = (λ e. none (0, omega arith, e)) in omega arith, r.1)

-- ---- two lists that share a range between them

-- each of the n numbers from this one on is in one list or in the other, and in these lists is nothing else
record AreParts (from n : ℕ) (xs ys : List ℕ) : Type 0 where
  each : (i : ℕ) → from ≤ i → i < from + n → Contains xs i ⊎ Contains ys i
  inside_first : (i : ℕ) → Contains xs i → i < from + n
  inside_second : (i : ℕ) → Contains ys i → i < from + n
  apart : (i : ℕ) → Contains xs i → Contains ys i → ⊥

swapped : (from n : ℕ) (xs ys : List ℕ) → AreParts from n xs ys → AreParts from n ys xs
swapped from n xs ys p = record {
  each = λ i low high. ⊎_elim (λ (c : Contains xs i). inr c) (λ (c : Contains ys i). inl c) (p.each i low high);
  inside_first = p.inside_second;
  inside_second = p.inside_first;
  apart = λ i c d. p.apart i d c;
}

none_left : (from : ℕ) (xs : List ℕ) → RisesFrom from xs → ((i : ℕ) → Contains xs i → i < from + 0) → length xs ≡ 0
none_left from [] r inside = refl
none_left from (x ∷ xs) r inside = let low = r.0 in let high = inside x (0, omega arith, refl) in absurd (omega arith)

-- the least number is taken out of the list that has it
one_out : (from n : ℕ) (xs ys : List ℕ) → RisesFrom from xs → RisesFrom from ys → AreParts from (suc n) xs ys
    → Contains xs from
    → ((us vs : List ℕ) → RisesFrom (from + 1) us → RisesFrom (from + 1) vs → AreParts (from + 1) n us vs
    → length us + length vs ≡ n) → length xs + length ys ≡ suc n
one_out from n [] ys r s p has rest = let inside = has.1 in absurd (omega arith)
one_out from n (x ∷ xs) ys r s p has rest =
    let here = first_is from x xs r has.0 has.1 has.2 in
    let fewer = rest xs ys (subst (λ (k : ℕ). RisesFrom (k + 1) xs) here r.1) (raised from ys s (p.apart from has))
    (record {
      each = λ i low high. ⊎_elim (λ (c : Contains (x ∷ xs) i). inl
          (in_tail x xs i c.0 c.1 c.2 (λ e. absurd (omega arith)))) (λ (c : Contains ys i). inr c)
          (p.each i (omega arith) (omega arith));
      inside_first = λ i c. let high = p.inside_first i (shifted x xs i c) in omega arith;
      inside_second = λ i c. let high = p.inside_second i c in omega arith;
      apart = λ i c d. p.apart i (shifted x xs i c) d;
    }) in
    omega arith

many_parts : (n from : ℕ) (xs ys : List ℕ) → RisesFrom from xs → RisesFrom from ys → AreParts from n xs ys
    → length xs + length ys ≡ n
many_parts zero from xs ys r s p = let a = none_left from xs r p.inside_first in
    let b = none_left from ys s p.inside_second in omega arith
many_parts (suc n) from xs ys r s p =
    ⊎_elim (λ (c : Contains xs from). one_out from n xs ys r s p c (λ us vs. many_parts n (from + 1) us vs))
    (λ (c : Contains ys from). let other = one_out from n ys xs s r (swapped from (suc n) xs ys p) c
    (λ us vs. many_parts n (from + 1) us vs) in omega arith)
    (p.each from (omega arith) (omega arith))

-- ---- the slots of an account

abbrev slots_in : List HeldSlot → List ℕ
slots_in held = map (λ (h : HeldSlot). h.slot) held

-- a number of a held slot is that of one which is held
record IsSlotOf (held : List HeldSlot) (i : ℕ) : Type 0 where
  one : HeldSlot
  among : Contains held one
  slot_is : one.slot ≡ i

slot_of_held : (held : List HeldSlot) (i : ℕ) → Contains (slots_in held) i → IsSlotOf held i
slot_of_held held i c =
    let nobody : HeldSlot = record { slot = i; master = 0 } in
    let within : c.0 < length held = let inside = c.1 in let long = length-map held (λ (h : HeldSlot). h.slot) in
    omega arith in
    let one = get_or held c.0 nobody in
    record {
      one = one;
      among = (c.0, within, get_or_default held c.0 one nobody within);
      slot_is = sym (get_or-map (λ (h : HeldSlot). h.slot) held c.0 nobody i within) ∙ c.2;
    }

held_slot : (held : List HeldSlot) (h : HeldSlot) → Contains held h → Contains (slots_in held) h.slot
held_slot held h c = (
  c.0,
  (let inside = c.1 in let long = length-map held (λ (x : HeldSlot). x.slot) in omega arith),
  get_or-map (λ (x : HeldSlot). x.slot) held c.0 h h.slot c.1 ∙ ap (λ (x : HeldSlot). x.slot) c.2,
)

slots_rise : (held : List HeldSlot) → IsRisingBy (λ (h : HeldSlot). h.slot) held
    → IsRisingBy (λ (i : ℕ). i) (slots_in held)
slots_rise held pairs i j d before inside =
    let nobody : HeldSlot = record { slot = d; master = 0 } in
    let long = length-map held (λ (h : HeldSlot). h.slot) in
    let within : j < length held = omega arith in
    let first = get_or-map (λ (h : HeldSlot). h.slot) held i nobody d (omega arith) in
    let second = get_or-map (λ (h : HeldSlot). h.slot) held j nobody d within in
    let less = pairs i j nobody before within in
    omega arith

-- the slots of an account are all slots of its arena, each once
pub all_slots : (about : About) (free : List ℕ) (held : List HeldSlot) (left : List ℕ) → IsClosing about free held left
    → length free + length held ≡ about.slots
all_slots about free held left c =
    let long = length-map held (λ (h : HeldSlot). h.slot) in
    let all = many_parts about.slots 0 free (slots_in held)
    (rises 0 free c.account.free_rising (λ i _. omega arith))
    (rises 0 (slots_in held) (slots_rise held c.account.held_rising) (λ i _. omega arith))
    (record {
      each = λ i low high. ⊎_elim (λ (is : Contains free i). inl is)
          (λ (is : (m : ℕ) × Contains held (record { slot = i; master = m })). inr
          (held_slot held (record { slot = i; master = is.0 }) is.1))
          (c.each i (omega arith));
      inside_first = λ i is.
          let within = slice_get_within c.slots i _ ((c.account.free_just i).0 is) in
          let many = c.many_slots in
          omega arith;
      inside_second = λ i is.
          let h = slot_of_held held i is in
          let found = (c.account.held_just h.one).0 h.among in
          let within = slice_get_within c.slots h.one.slot found.found found.at in
          let many = c.many_slots in
          let same = h.slot_is in
          omega arith;
      apart = λ i is other.
          let h = slot_of_held held i other in
          c.apart h.one h.among (subst (λ (k : ℕ). Contains free k) (sym h.slot_is) is);
    }) in
    omega arith
