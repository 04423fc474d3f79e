-- The places of pages, and what a change of one leaves.
use Rattle.std.proofs.Common.{◌≡◌, ◌∙◌, ◌⊎◌, inl, inr, ⊎_elim, ℕ, zero, suc, ◌+◌, ◌/◌, ◌%◌, ◌<◌, ◌≤◌, Bool, List, [], ◌∷◌, ◌++◌, length, take, drop, set, get_or, slice_get, replicate, Option, Some, None, refl, sym, ap, subst, arith}
use Rattle.std.specs.Prelude.{option_map, All}
use Rattle.std.proofs.lemmas.List.{append_assoc, set_split, length-set, length-append, length-replicate, get_or-replicate, take_all}
use Rattle.std.proofs.lemmas.List.Elements.{All-head, All-tail, All-set, All-push}
use Rattle.std.proofs.lemmas.Bool.{cases_eq, cases_lt}
use Rattle.tl_types.specs.Bytes.{plain_of}
use Rattle.tl_types.specs.declared.operation.AskOp.{AskOp}
use Rattle.tl_ops.specs.declared.kind.Kind.{Kind}
use Rattle.tl_ops.proofs.Kept.{length-new_window}
use Rattle.check_memory.specs.Paged.{Slot, blank_slot}
use Rattle.check_memory.specs.Known.{replaced}
use Rattle.check_memory.specs.Cells.{new_cells}
use Rattle.check_memory.specs.Place.{tabulate, fill_of}
use Rattle.check_memory.specs.Paged.{content, IsAt, AreDistinctPages, AreIndexed}
use Rattle.check_memory.proofs.Told.{Told, told-length}
use Rattle.check_memory.proofs.Soundness.{told-new}
use Rattle.check_memory.proofs.Replaced.{get_or-replaced_in, get_or-replaced_out}
use Rattle.check_memory.proofs.Space.{window_seen, replaced_seen, content_here, content_there, content_absent, content_push, same_tabulate}

-- the page at a place
pub slot_here : (slots : List Slot) (at number : ℕ) → IsAt slots number at
    → (slice_get slots at ≡ Some (get_or slots at blank_slot)) × ((get_or slots at blank_slot).number ≡ number)
slot_here [] at number is = cc
slot_here (s ∷ slots) zero number is =
    let numbered : Some s.number ≡ Some number = is in
    let same : s.number ≡ number = cc in
    (refl, same)
slot_here (s ∷ slots) (suc at) number is = slot_here slots at number is

pub at_within : (slots : List Slot) (at number : ℕ) → IsAt slots number at → at < length slots
at_within [] at number is = cc
at_within (s ∷ slots) zero number is = omega arith
at_within (s ∷ slots) (suc at) number is = let rest = at_within slots at number is in omega (arith, rest)

pub at_from_slot : (slots : List Slot) (at number : ℕ) (slot : Slot) → slice_get slots at ≡ Some slot → slot.number ≡ number
    → IsAt slots number at
at_from_slot slots at number slot is numbered = ap (option_map (λ (s : Slot). s.number)) is
    ∙ ap (λ (n : ℕ). Some n) numbered

pub paged_at : (slots : List Slot) (at : ℕ) (slot : Slot) → All (λ (s : Slot). length s.page ≡ 256) slots
    → slice_get slots at ≡ Some slot → length slot.page ≡ 256
paged_at [] at slot all is = cc
paged_at (s ∷ slots) zero slot all is =
    let same : s ≡ slot = cc in
    ap (λ (t : Slot). length t.page) (sym same) ∙ All-head (λ (t : Slot). length t.page ≡ 256) s slots all
paged_at (s ∷ slots) (suc at) slot all is =
    paged_at slots at slot (All-tail (λ (t : Slot). length t.page ≡ 256) s slots all) is

numbers_kept : (slots : List Slot) (at : ℕ) (slot new : Slot) (i : ℕ) → slice_get slots at ≡ Some slot
    → new.number ≡ slot.number
    → option_map (λ (s : Slot). s.number) (slice_get (set slots at new) i)
    ≡ option_map (λ (s : Slot). s.number) (slice_get slots i)
numbers_kept [] at slot new i is same = refl
numbers_kept (s ∷ slots) zero slot new zero is same = let was : s ≡ slot = cc in
    ap (λ (n : ℕ). Some n) (same ∙ ap (λ (t : Slot). t.number) (sym was))
numbers_kept (s ∷ slots) zero slot new (suc i) is same = refl
numbers_kept (s ∷ slots) (suc at) slot new zero is same = refl
numbers_kept (s ∷ slots) (suc at) slot new (suc i) is same = numbers_kept slots at slot new i is same

pub set_here : (slots : List Slot) (at : ℕ) (slot new : Slot) → slice_get slots at ≡ Some slot
    → slice_get (set slots at new) at ≡ Some new
set_here [] at slot new is = cc
set_here (s ∷ slots) zero slot new is = refl
set_here (s ∷ slots) (suc at) slot new is = set_here slots at slot new is

-- ---- a page read

pub page_shown : (slots : List Slot) (at number : ℕ) (slot : Slot) (known : Bool)
    (n address width : ℕ) → AreDistinctPages slots → slice_get slots at ≡ Some slot → slot.number ≡ number
    → number ≡ address / 256
    → address % 256 + width ≤ 256 → address + width ≤ n
    → take width (drop address (tabulate (content slots known) n)) ≡ take width (drop (address % 256) slot.page)
page_shown slots at number slot known n address width distinct is numbered here inside within =
    let whole : length slot.page ≡ 256 = paged_at slots at slot distinct.paged is in
    window_seen (content slots known) n slot.page address (address % 256) width within (omega (arith, whole, inside))
    (λ k below.
    let word : number ≡ (address + k) / 256 = omega (arith, here, inside, below) in
    let lane : (address + k) % 256 ≡ address % 256 + k = omega (arith, inside, below) in
    content_here slots at number slot known (address + k) is numbered
    (λ i there. distinct.alone number i at there (at_from_slot slots at number slot is numbered)) word
    ∙ ap (λ p. get_or slot.page p None) lane)

-- where there is no page
pub fill_shown : (slots : List Slot) (number : ℕ) (known : Bool) (n address width : ℕ)
    → ((i : ℕ) → IsAt slots number i → ⊥) → number ≡ address / 256
    → address % 256 + width ≤ 256 → address + width ≤ n
    → take width (drop address (tabulate (content slots known) n)) ≡ replicate width (fill_of known)
fill_shown slots number known n address width none here inside within =
    let page = replicate width (fill_of known) in
    let long : length page ≡ width = length-replicate width (fill_of known) in
    window_seen (content slots known) n page address 0 width within (omega (arith, long)) (λ k below.
    let word : number ≡ (address + k) / 256 = omega (arith, here, inside, below) in
    let zero_k : 0 + k ≡ k = omega arith in
    content_absent slots number known (address + k) none word
    ∙ sym (ap (λ i. get_or page i None) zero_k ∙ get_or-replicate width k (fill_of known) None below))
    ∙ take_all width page (omega (arith, long))

-- ---- a page changed

pub page_changed : (slots : List Slot) (at number : ℕ) (slot new : Slot) (known : Bool)
    (n address : ℕ) (cells : List (Option ℕ)) → AreDistinctPages slots → slice_get slots at ≡ Some slot
    → slot.number ≡ number → new.number ≡ slot.number → number ≡ address / 256
    → address % 256 + length cells ≤ 256 → address + length cells ≤ n
    → new.page ≡ replaced slot.page (address % 256) cells
    → tabulate (content (set slots at new) known) n ≡ replaced (tabulate (content slots known) n) address cells
page_changed slots at number slot new known n address cells distinct is numbered same here inside within made =
    replaced_seen (content slots known) (content (set slots at new) known) n address cells within
    (λ k below.
    let word : number ≡ (address + k) / 256 = omega (arith, here, inside, below) in
    let lane : (address + k) % 256 ≡ address % 256 + k = omega (arith, inside, below) in
    shown (address + k) word ∙ ap (λ p. get_or p ((address + k) % 256) None) made
    ∙ ap (λ i. get_or (replaced slot.page (address % 256) cells) i None) lane
    ∙ get_or-replaced_in slot.page cells (address % 256) k room below)
    (λ a beside. ⊎_elim
    (λ (word : number ≡ a / 256).
    let out : (a % 256 < address % 256) ⊎ (address % 256 + length cells ≤ a % 256) =
    ⊎_elim (λ before. inl (omega (arith, before, word, here)))
    (λ past. inr (omega (arith, past, word, here))) beside in
    shown a word ∙ ap (λ p. get_or p (a % 256) None) made
    ∙ get_or-replaced_out slot.page cells (address % 256) (a % 256) room out
    ∙ sym (content_here slots at number slot known a is numbered
    (λ i there. distinct.alone number i at there (at_from_slot slots at number slot is numbered)) word))
    (λ apart. content_there slots at slot new known a is same (λ e. apart (sym numbered ∙ e)))
    (cases_eq number (a / 256)))
  where
    room : address % 256 + length cells ≤ length slot.page
    room = let whole : length slot.page ≡ 256 = paged_at slots at slot distinct.paged is in omega (arith, whole, inside)

    alone' : (i : ℕ) → IsAt (set slots at new) number i → i ≡ at
    alone' i there = distinct.alone number i at (sym (numbers_kept slots at slot new i is same) ∙ there)
        (at_from_slot slots at number slot is numbered)

    shown : (a : ℕ) → number ≡ a / 256 → content (set slots at new) known a ≡ get_or new.page (a % 256) None
    shown a word = content_here (set slots at new) at number new known a (set_here slots at slot new is) (same
        ∙ numbered) alone' word

pub indexed_kept : (slots : List Slot) (first run : ℕ) (place : ℕ → Option ℕ) (at : ℕ) (slot new : Slot)
    → AreIndexed slots first run place → slice_get slots at ≡ Some slot → new.number ≡ slot.number
    → length new.page ≡ 256 → AreIndexed (set slots at new) first run place
indexed_kept slots first run place at slot new indexed is same whole = record {
  distinct = record {
    paged = All-set (λ (s : Slot). length s.page ≡ 256) slots at new whole indexed.distinct.paged;
    alone = λ number i j here there. indexed.distinct.alone number i j (back number i here) (back number j there);
  };
  within = omega (arith, indexed.within, length-set slots at new);
  follow = λ i below. numbers_kept slots at slot new i is same ∙ indexed.follow i below;
  there = λ number i has. numbers_kept slots at slot new i is same ∙ indexed.there number i has;
  known = λ number i past there. indexed.known number i past (back number i there);
}
  where
    back : (number i : ℕ) → IsAt (set slots at new) number i → IsAt slots number i
    back number i there = sym (numbers_kept slots at slot new i is same) ∙ there

-- ---- a window after a request is as long as before

told-plain : (cells : List (Option ℕ)) → Told cells (plain_of cells)
told-plain [] = tt
told-plain (None ∷ cells) = (tt, told-plain cells)
told-plain (Some byte ∷ cells) = (refl, told-plain cells)

pub length-new_cells : (kind : Kind) (op : AskOp) (old given : List (Option ℕ)) → length given ≡ length old
    → length (new_cells kind op old given) ≡ length old
length-new_cells kind op old given long =
    let plain = plain_of old in
    let told = told-plain old in
    let wide : length plain ≡ length old = told-length old plain told in
    sym (told-length (new_cells kind op old given) _ (told-new kind op old plain given told (λ _. long ∙ sym wide)))
    ∙ length-new_window kind op plain given (long ∙ sym wide) ∙ wide

-- ---- a page added

pub at_old : (slots : List Slot) (slot : Slot) (number at : ℕ) → IsAt slots number at
    → IsAt (slots ++ slot ∷ []) number at
at_old [] slot number at is = cc
at_old (s ∷ slots) slot number zero is = is
at_old (s ∷ slots) slot number (suc at) is = at_old slots slot number at is

pub at_new : (slots : List Slot) (slot : Slot) (at : ℕ) → at ≡ length slots → IsAt (slots ++ slot ∷ []) slot.number at
at_new [] slot zero is = refl
at_new [] slot (suc at) is = absurd (omega (arith, is))
at_new (s ∷ slots) slot zero is = absurd (omega (arith, is))
at_new (s ∷ slots) slot (suc at) is = at_new slots slot at (omega (arith, is))

at_either : (slots : List Slot) (slot : Slot) (number at : ℕ) → IsAt (slots ++ slot ∷ []) number at
    → (IsAt slots number at) ⊎ ((at ≡ length slots) × (slot.number ≡ number))
at_either [] slot number zero is = let same : slot.number ≡ number = some_same slot.number number is in inr (refl, same)
  where
    some_same : (a b : ℕ) → Some a ≡ Some b → a ≡ b
    some_same a b e = cc
at_either [] slot number (suc at) is = cc
at_either (s ∷ slots) slot number zero is = inl is
at_either (s ∷ slots) slot number (suc at) is =
    ⊎_elim (λ old. inl old) (λ new. inr (ap suc new.0, new.1)) (at_either slots slot number at is)

distinct_more : (slots : List Slot) (slot : Slot) → AreDistinctPages slots → ((i : ℕ) → IsAt slots slot.number i → ⊥)
    → length slot.page ≡ 256 → AreDistinctPages (slots ++ slot ∷ [])
distinct_more slots slot distinct none whole = record {
  paged = All-push (λ (s : Slot). length s.page ≡ 256) slots slot distinct.paged whole;
  alone = λ number i at here there. ⊎_elim
      (λ old. ⊎_elim
      (λ old'. distinct.alone number i at old old')
      (λ new'. absurd (never number i new'.1 old))
      (at_either slots slot number at there))
      (λ new. ⊎_elim
      (λ old'. absurd (never number at new.1 old'))
      (λ new'. new.0 ∙ sym new'.0)
      (at_either slots slot number at there))
      (at_either slots slot number i here);
}
  where
    never : (number i : ℕ) → slot.number ≡ number → IsAt slots number i → ⊥
    never number i same there = let P : ℕ → Type 0 = λ n. IsAt slots n i in none i (subst P (sym same) there)

-- a page that goes on with the run
pub indexed_run : (slots : List Slot) (first first' run : ℕ) (place : ℕ → Option ℕ) (slot : Slot)
    → AreIndexed slots first run place → ((i : ℕ) → IsAt slots slot.number i → ⊥) → length slot.page ≡ 256
    → length slots ≡ run → (0 < run → first' ≡ first) → slot.number ≡ first' + run
    → AreIndexed (slots ++ slot ∷ []) first' (run + 1) place
indexed_run slots first first' run place slot indexed none whole is same numbered = record {
  distinct = distinct_more slots slot indexed.distinct none whole;
  within = omega (arith, is, length-append slots (slot ∷ []));
  follow = λ at below. ⊎_elim
      (λ (before : at < run).
      let P : ℕ → Type 0 = λ n. IsAt (slots ++ slot ∷ []) (n + at) at in
      subst P (sym (same (omega (arith, before)))) (at_old slots slot (first + at) at (indexed.follow at before)))
      (λ (from : run ≤ at).
      let last : at ≡ run = omega (arith, below, from) in
      let P : ℕ → Type 0 = λ n. IsAt (slots ++ slot ∷ []) n at in
      subst P (numbered ∙ ap (λ n. first' + n) (sym last)) (at_new slots slot at (last ∙ sym is)))
      (cases_lt at run);
  there = λ number i has. at_old slots slot number i (indexed.there number i has);
  known = λ number i past has. ⊎_elim
      (λ old. indexed.known number i (omega (arith, past)) old)
      (λ new. absurd (omega (arith, past, new.0, is)))
      (at_either slots slot number i has);
}

-- a page that the index knows
pub indexed_more : (slots : List Slot) (first run : ℕ) (place place' : ℕ → Option ℕ) (slot : Slot) (at : ℕ)
    → AreIndexed slots first run place → ((i : ℕ) → IsAt slots slot.number i → ⊥) → length slot.page ≡ 256
    → at ≡ length slots → place' slot.number ≡ Some at
    → ((q : ℕ) → (q ≡ slot.number → ⊥) → place' q ≡ place q)
    → AreIndexed (slots ++ slot ∷ []) first run place'
indexed_more slots first run place place' slot at indexed none whole is here there = record {
  distinct = distinct_more slots slot indexed.distinct none whole;
  within = omega (arith, indexed.within, length-append slots (slot ∷ []));
  follow = λ i below. at_old slots slot (first + i) i (indexed.follow i below);
  there = λ number i has. ⊎_elim
      (λ (same : number ≡ slot.number).
      let e : Some at ≡ Some i = sym here ∙ ap place' (sym same) ∙ has in
      let at_is : at ≡ i = cc in
      let P : ℕ → Type 0 = λ n. IsAt (slots ++ slot ∷ []) n i in
      subst P (sym same) (at_new slots slot i (sym at_is ∙ is)))
      (λ apart. at_old slots slot number i (indexed.there number i (sym (there number apart) ∙ has)))
      (cases_eq number slot.number);
  known = λ number i past has. ⊎_elim
      (λ old. there number (λ same. let P : ℕ → Type 0 = λ n. IsAt slots n i in none i (subst P same old))
      ∙ indexed.known number i past old)
      (λ new. ap place' (sym new.1) ∙ here ∙ ap (λ (n : ℕ). Some n) (is ∙ sym new.0))
      (at_either slots slot number i has);
}

pub pages_same : (slots : List Slot) (slot : Slot) (known : Bool) (n : ℕ) → slot.page ≡ replicate 256 (fill_of known)
    → ((i : ℕ) → IsAt slots slot.number i → ⊥)
    → tabulate (content (slots ++ slot ∷ []) known) n ≡ tabulate (content slots known) n
pages_same slots slot known n page none =
    same_tabulate (content (slots ++ slot ∷ []) known) (content slots known) n
    (λ a below. content_push slots slot known a page none)

-- one cell replaced
pub set_is_replaced : (cells : List (Option ℕ)) (place : ℕ) (cell : Option ℕ) → place < length cells
    → replaced cells place (cell ∷ []) ≡ set cells place cell
set_is_replaced cells place cell within =
    let next : place + 1 ≡ suc place = omega arith in
    append_assoc (take place cells) (cell ∷ []) (drop (place + 1) cells)
    ∙ ap (λ n. take place cells ++ (cell ∷ drop n cells)) next ∙ sym (set_split cells place cell within)
