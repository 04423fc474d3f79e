-- The account of the words of a table that fits.
use Rattle.std.proofs.Common.{◌≡◌, ℕ, ◌+◌, ◌<◌, ◌⊎◌, ⊎_elim, inl, inr, List, [], ◌∷◌, ◌++◌, length, take, drop, ◌≤◌, get_or, slice_get, Contains, Some, refl, sym, ap, subst, ◌∙◌, arith}
use Rattle.std.proofs.lemmas.Option.{slice_get-get_or, slice_get_within, get_or_from_slice_get}
use Rattle.std.proofs.lemmas.List.{get_or-append-add, get_or_append_left, get_or-drop, length-drop, take-append-drop, take_more, take_all, length-take-le}
use mathlib.Core.Option as maybe
use lib.ListN.{get_elem?}
use Rattle.atomic_table.specs.Table.{State}
use Rattle.tl_slots.specs.declared.phase.Phase.{Phase}
use Rattle.tl_slots.specs.declared.phase.Phase.TheVariants.{Free}
use Rattle.tl_slots.specs.Word.{word, IsWordOf}
use Rattle.tl_slots.proofs.Words.{one_phase}
use Rattle.tl_rule.specs.declared.view.About.{About}
use Rattle.tl_rule.specs.declared.view.View.{View}
use Rattle.tl_rule.specs.Record.{Berth}
use Rattle.tl_rule.specs.Rule.{Fits, Names}
use Rattle.tl_rule.specs.Laws.{AreArenaWords}
use Rattle.tl_rule.proofs.Facts.{free_names_none}
use Rattle.tl_rule.proofs.Tables.{at_get}
use Rattle.tl_rule.proofs.FitsLaws.{words_law, free_or}
use Rattle.tl_arena.specs.declared.account.HeldSlot.{HeldSlot}
use Rattle.tl_arena.specs.Account.{IsAccountOf, IsClosing}

-- a word of slots and leave words, by its place
slot_word : (slots leaves : List ℕ) (i : ℕ) → i < length slots → get_or (slots ++ leaves) i 0 ≡ get_or slots i 0
slot_word slots leaves i lt = get_or_append_left slots leaves 0 i lt

left_word : (slots leaves : List ℕ) (n m : ℕ) → length slots ≡ n
    → get_or (slots ++ leaves) (n + m) 0 ≡ get_or leaves m 0
left_word slots leaves n m long =
    ap (λ (k : ℕ). get_or (slots ++ leaves) (k + m) 0) (sym long) ∙ get_or-append-add slots leaves m 0

module _ (a : About) (slots leaves : List ℕ) (W : AreArenaWords a (slots ++ leaves))
    (many_slots : length slots ≡ a.slots) (many_leaves : length leaves ≡ a.masters)
    (free : List ℕ) (held : List HeldSlot) (left : List ℕ) (account : IsAccountOf slots leaves free held left) where
  -- the word of a slot codes a phase
  codes : (i : ℕ) → i < a.slots → (f : Phase) × IsWordOf f (get_or slots i 0)
  codes i lt = let t = W.phases i lt in (
    t.0,
    subst (λ (w : ℕ). IsWordOf t.0 w) (slot_word slots leaves i (omega (arith, lt, many_slots))) t.1,
  )

  at_slot : (i : ℕ) → i < a.slots → slice_get slots i ≡ Some (get_or slots i 0)
  at_slot i lt = slice_get-get_or slots i 0 (omega (arith, lt, many_slots))

  each : (i : ℕ) → i < a.slots → Contains free i ⊎ ((m : ℕ) × Contains held (record { slot = i; master = m }))
  each i lt = let t = codes i lt in ⊎_elim
      (λ (e : t.0 ≡ Free). inl ((account.free_just i).1 (at_slot i lt ∙ ap (λ (w : ℕ). Some w) (t.1.is ∙ ap word e))))
      (λ (n : (m : ℕ) × Names t.0 m). inr (
        n.0,
        (account.held_just (record { slot = i; master = n.0 })).1
            (record {
              found = get_or slots i 0;
              at = at_slot i lt;
              of = record { phase = t.0; codes = t.1; names = n.1 };
            }),
      ))
      (free_or t.0)

  -- a held slot, with the phase that its word codes
  record HeldAt (h : HeldSlot) : Type 0 where
    inside : h.slot < a.slots
    phase : Phase
    codes : IsWordOf phase (get_or (slots ++ leaves) h.slot 0)
    names : Names phase h.master

  held_at : (h : HeldSlot) → Contains held h → HeldAt h
  held_at h c = let t = (account.held_just h).0 c in let lt = slice_get_within slots h.slot t.found t.at in
      let word_is : get_or (slots ++ leaves) h.slot 0 ≡ t.found =
      slot_word slots leaves h.slot lt ∙ get_or_from_slice_get slots h.slot t.found 0 t.at in
      record {
        inside = omega (arith, lt, many_slots);
        phase = t.of.phase;
        codes = subst (λ (w : ℕ). IsWordOf t.of.phase w) (sym word_is) t.of.codes;
        names = t.of.names;
      }

  apart : (h : HeldSlot) → Contains held h → Contains free h.slot → ⊥
  apart h c d = let t = (account.held_just h).0 c in let at = (account.free_just h.slot).0 d in
      let same : t.found ≡ word Free = one_found (t.at) at in
      let f_is : t.of.phase ≡ Free =
      one_phase t.of.phase Free t.found t.of.codes
      (record { fits = record { owner = tt; port = tt }; is = same }) in
      free_names_none h.master (subst (λ (f : Phase). Names f h.master) f_is t.of.names)
    where
      one_found : {x y : ℕ} → slice_get slots h.slot ≡ Some x → slice_get slots h.slot ≡ Some y → x ≡ y
      one_found p q = cc

  -- the leave word of a master that holds a slot is 0
  stays : (h : HeldSlot) → Contains held h → (h.master < a.masters) × (get_or leaves h.master 0 ≡ 0)
  stays h c = let t = held_at h c in
      let o = W.owners_stay h.slot h.master t.phase t.inside t.codes t.names in
      (o.0, sym (left_word slots leaves a.slots h.master many_slots) ∙ o.1)

  present : (h : HeldSlot) → Contains held h → Contains left h.master → ⊥
  present h c l = let one = get_or_from_slice_get leaves h.master 1 0 ((account.left_just h.master).0 l) in
      let zero = (stays h c).1 in absurd (omega arith)

  none_held : (hs : List HeldSlot) → ((h : HeldSlot) → Contains hs h → ⊥) → hs ≡ []
  none_held [] none = refl
  none_held (h ∷ hs) none = absurd (none h (0, omega (arith), refl))

  all_free : ((m : ℕ) → m < a.masters → Contains left m) → held ≡ []
  all_free all = none_held held (λ h c. present h c (all h.master (stays h c).0))

pub closing : (a : About) (s : State Berth View) (slots leaves : List ℕ) (free : List ℕ) (held : List HeldSlot)
    (left : List ℕ) → Fits a s → s.words ≡ slots ++ leaves → length slots ≡ a.slots → length leaves ≡ a.masters
    → IsAccountOf slots leaves free held left → IsClosing a free held left
closing a s slots leaves free held left F words many_slots many_leaves account = let W =
    subst (AreArenaWords a) words (words_law a s F) in record {
      table = s;
      fits = F;
      slots = slots;
      leaves = leaves;
      words = words;
      many_slots = many_slots;
      many_leaves = many_leaves;
      account = account;
      each = each a slots leaves W many_slots many_leaves free held left account;
      apart = apart a slots leaves W many_slots many_leaves free held left account;
      present = present a slots leaves W many_slots many_leaves free held left account;
      all_free = all_free a slots leaves W many_slots many_leaves free held left account;
    }

-- ---- the words of a table, from a place on

pub word_next : (ws : List ℕ) (from k w : ℕ) → get_elem? ws (from + k) ≡ maybe.some w
    → take (k + 1) (drop from ws) ≡ take k (drop from ws) ++ w ∷ []
word_next ws from k w at =
    let t = at_get ws (from + k) w 0 at in
    let inside = t.0 in
    let long = length-drop from ws in
    let is : get_or (drop from ws) k 0 ≡ w = get_or-drop from ws k 0 ∙ t.1 in
    take_more (drop from ws) k 0 (omega arith) ∙ ap (λ (x : ℕ). take k (drop from ws) ++ x ∷ []) is

-- the words of the slots, and then the leave words, are all
pub words_split : (ws : List ℕ) (n m : ℕ) → length ws ≡ n + m → ws ≡ take n ws ++ take m (drop n ws)
words_split ws n m long =
    let rest = length-drop n ws in
    sym (take-append-drop n ws) ∙ ap (λ (xs : List ℕ). take n ws ++ xs) (sym (take_all m (drop n ws) (omega arith)))

pub taken_length : (ws : List ℕ) (n : ℕ) → n ≤ length ws → length (take n ws) ≡ n
taken_length ws n lt = length-take-le n ws lt

pub dropped_length : (ws : List ℕ) (n m : ℕ) → length ws ≡ n + m → length (take m (drop n ws)) ≡ m
dropped_length ws n m long = let rest = length-drop n ws in taken_length (drop n ws) m (omega arith)
