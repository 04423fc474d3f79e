-- Things that are chosen by their numbers, one number after the other.
use Rattle.std.proofs.Common.{◌≡◌, ◌≢◌, ℕ, ◌+◌, ◌<◌, ◌↔◌, ⊎_elim, List, [], ◌∷◌, ◌++◌, length, get_or, slice_get, Option, Some, None, ◌≤◌, Contains, refl, sym, ap, subst, ◌∙◌, arith}
use Rattle.std.proofs.lemmas.Bool.{cases_eq}
use Rattle.std.proofs.lemmas.Option.{slice_get_within, slice_get-get_or}
use Rattle.std.proofs.lemmas.List.Elements.{Contains-push, Contains-push_cases, Contains-append_left, Contains-get_or}
use Rattle.std.proofs.lemmas.List.Quantifiers.{all_pairs_push}
use Rattle.tl_arena.specs.declared.account.HeldSlot.{HeldSlot}
use Rattle.tl_arena.specs.Account.{IsRisingBy, IsHeldWord, IsHeld}

-- of the things with numbers below n just those with this property were chosen, in rising order
pub record Chosen {X : Type 0} (number : X → ℕ) (P : X → Type 0) (n : ℕ) (xs : List X) : Type 0 where
  pub just : (x : X) → Contains xs x ↔ ((number x < n) × P x)
  pub rising : IsRisingBy number xs

module _ {X : Type 0} (number : X → ℕ) (P : X → Type 0) where
  pub chosen_none : Chosen number P 0 []
  chosen_none = record {
    just = λ x. (λ c. let lt = c.1 in absurd (omega arith), λ p. let lt = p.0 in absurd (omega arith));
    rising = λ j k d before lt. absurd (omega arith);
  }

  pub chosen_skip : (n : ℕ) (xs : List X) → Chosen number P n xs → ((x : X) → number x ≡ n → P x → ⊥)
      → Chosen number P (n + 1) xs
  chosen_skip n xs c none = record {
    just = λ x. (
      λ in_list. let t = (c.just x).0 in_list in let lt = t.0 in (omega arith, t.1),
      λ p. let lt = p.0 in (c.just x).1 (⊎_elim (λ e. absurd (none x e p.1)) (λ (ne : number x ≢ n). (omega arith, p.1))
          (cases_eq (number x) n)),
    );
    rising = c.rising;
  }

  pub chosen_more : (n : ℕ) (xs : List X) (x : X) → Chosen number P n xs → number x ≡ n → P x
      → ((y : X) → number y ≡ n → P y → y ≡ x) → Chosen number P (n + 1) (xs ++ x ∷ [])
  chosen_more n xs x c at p one = record {
    just = λ y. (
      λ in_list. ⊎_elim (λ old. let t = (c.just y).0 old in let lt = t.0 in (omega arith, t.1))
          (λ (e : x ≡ y). (let same = ap number e in omega arith, subst P e p)) (Contains-push_cases xs x y in_list),
      λ q. let lt = q.0 in ⊎_elim (λ e. subst (λ z. Contains (xs ++ x ∷ []) z) (sym (one y e q.1)) (Contains-push xs x))
          (λ (ne : number y ≢ n). Contains-append_left xs (x ∷ []) y ((c.just y).1 (omega arith, q.1)))
          (cases_eq (number y) n),
    );
    rising = all_pairs_push (λ (a b : X). number a < number b) xs x c.rising
        (λ k d lt. let t = (c.just (get_or xs k d)).0 (Contains-get_or xs k d lt) in let below = t.0 in omega arith);
  }

  pub chosen_all : (n : ℕ) (xs : List X) → Chosen number P n xs → ((x : X) → P x → number x < n) → (x : X)
      → Contains xs x ↔ P x
  chosen_all n xs c inside x = (λ in_list. ((c.just x).0 in_list).1, λ p. (c.just x).1 (inside x p, p))

one_some : (a b : ℕ) → Some a ≡ Some b → a ≡ b
one_some a b e = cc

-- ---- the places of one word

abbrev pub Here : List ℕ → ℕ → ℕ → Type 0
Here words wanted i = slice_get words i ≡ Some wanted

pub place_taken : (words xs ys : List ℕ) (wanted n : ℕ) → Chosen (λ (i : ℕ). i) (Here words wanted) n xs
    → n < length words → get_or words n 0 ≡ wanted → ys ≡ xs ++ n ∷ []
    → Chosen (λ (i : ℕ). i) (Here words wanted) (n + 1) ys
place_taken words xs ys wanted n c lt same is = let at = slice_get-get_or words n 0 lt ∙ ap (λ (w : ℕ). Some w) same in
    subst (λ (zs : List ℕ). Chosen (λ (i : ℕ). i) (Here words wanted) (n + 1) zs) (sym is)
    (chosen_more (λ (i : ℕ). i) (Here words wanted) n xs n c refl at (λ y e p. e))

pub place_skipped : (words xs : List ℕ) (wanted n : ℕ) → Chosen (λ (i : ℕ). i) (Here words wanted) n xs
    → n < length words → get_or words n 0 ≢ wanted → Chosen (λ (i : ℕ). i) (Here words wanted) (n + 1) xs
place_skipped words xs wanted n c lt ne = let word = get_or words n 0 in let at = slice_get-get_or words n 0 lt in
    chosen_skip (λ (i : ℕ). i) (Here words wanted) n xs c
    (λ x e p. ne (one_some word wanted (sym at ∙ subst (λ (k : ℕ). slice_get words k ≡ Some wanted) e p)))

pub places_all : (words xs : List ℕ) (wanted n : ℕ) → Chosen (λ (i : ℕ). i) (Here words wanted) n xs → length words ≤ n
    → (i : ℕ) → Contains xs i ↔ Here words wanted i
places_all words xs wanted n c all =
    chosen_all (λ (i : ℕ). i) (Here words wanted) n xs c
    (λ i p. let lt = slice_get_within words i wanted p in omega arith)

-- ---- the slots that masters hold

-- this is the master that the word names, if it names one
abbrev pub HoldsJust : ℕ → Option ℕ → Type 0
HoldsJust word holder = (m : ℕ) → (holder ≡ Some m) ↔ IsHeldWord word m

pub held_taken : (words : List ℕ) (xs ys : List HeldSlot) (n master : ℕ)
    → Chosen (λ (h : HeldSlot). h.slot) (IsHeld words) n xs → n < length words
    → HoldsJust (get_or words n 0) (Some master)
    → ys ≡ xs ++ record { slot = n; master = master } ∷ [] → Chosen (λ (h : HeldSlot). h.slot) (IsHeld words) (n + 1) ys
held_taken words xs ys n master c lt one is = let word = get_or words n 0 in let at = slice_get-get_or words n 0 lt in
    subst (λ (zs : List HeldSlot). Chosen (λ (h : HeldSlot). h.slot) (IsHeld words) (n + 1) zs) (sym is)
    (chosen_more (λ (h : HeldSlot). h.slot) (IsHeld words) n xs (record { slot = n; master = master }) c refl
    (record { found = word; at = at; of = (one master).0 refl })
    (λ y e p. let same : p.found ≡ word = one_some p.found word (sym p.at ∙ ap (λ (k : ℕ). slice_get words k) e ∙ at) in
    let m : master ≡ y.master =
    one_some master y.master ((one y.master).1 (subst (λ (w : ℕ). IsHeldWord w y.master) same p.of)) in
    (λ t. record { slot = e t; master = sym m t })))

pub held_skipped : (words : List ℕ) (xs : List HeldSlot) (n : ℕ) → Chosen (λ (h : HeldSlot). h.slot) (IsHeld words) n xs
    → n < length words → HoldsJust (get_or words n 0) None → Chosen (λ (h : HeldSlot). h.slot) (IsHeld words) (n + 1) xs
held_skipped words xs n c lt none = let word = get_or words n 0 in let at = slice_get-get_or words n 0 lt in
    chosen_skip (λ (h : HeldSlot). h.slot) (IsHeld words) n xs c
    (λ x e p. let same : p.found ≡ word = one_some p.found word (sym p.at ∙ ap (λ (k : ℕ). slice_get words k) e ∙ at) in
    let e = (none x.master).1 (subst (λ (w : ℕ). IsHeldWord w x.master) same p.of) in absurd cc)

pub held_all : (words : List ℕ) (xs : List HeldSlot) (n : ℕ) → Chosen (λ (h : HeldSlot). h.slot) (IsHeld words) n xs
    → length words ≤ n → (h : HeldSlot) → Contains xs h ↔ IsHeld words h
held_all words xs n c all =
    chosen_all (λ (h : HeldSlot). h.slot) (IsHeld words) n xs c
    (λ h p. let lt = slice_get_within words h.slot p.found p.at in omega arith)
