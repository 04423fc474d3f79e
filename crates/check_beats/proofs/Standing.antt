-- Items of a message, lane by lane as its beats say them.
use Rattle.std.proofs.Common.{◌≡◌, ◌∙◌, ℕ, ◌+◌, ◌*◌, ◌/◌, ◌^◌, ◌%◌, ◌<◌, ◌≤◌, ◌⊎◌, inl, inr, List, [], ◌∷◌, ◌++◌, length, get_or, slice_get, Some, ap, sym, arith}
use Rattle.std.proofs.lemmas.Nat.{pow_pos, mod_below, mul-le, div-add-mod'}
use Rattle.std.proofs.lemmas.Option.{slice_get_within, slice_get-get_or, get_or_from_slice_get}
use Rattle.std.proofs.lemmas.List.{get_or_append_left, get_or-append-add}
use Rattle.tl_types.proofs.Lists.{slice_get-push}

-- each item of a list is what this says of its beat and its lane, where all lanes carry one
abbrev pub Stand : {A B : Type 0} → (B → ℕ → A) → ℕ → List A → List B → Type 0
Stand {A} {B} said w items beats = (j : ℕ) (item : A) (x : B) → slice_get items j ≡ Some item
    → slice_get beats (j / 2 ^ w) ≡ Some x → item ≡ said x (j % 2 ^ w)

pub none_stand : {A B : Type 0} (said : B → ℕ → A) (w : ℕ) → Stand said w [] []
none_stand said w j item x at found = absurd (cc)

-- those of a beat more
pub more_stand : {A B : Type 0} (said : B → ℕ → A) (w : ℕ) (d : A) (items part : List A) (beats : List B) (x : B)
    → length items ≡ length beats * 2 ^ w → ((i : ℕ) → i < 2 ^ w → get_or part i d ≡ said x i) → Stand said w items beats
    → Stand said w (items ++ part) (beats ++ x ∷ [])
more_stand {A} {B} said w d items part beats x counted each stand j item y at found = go (slice_get-push beats x y (j / 2 ^ w) found)
  where
    split : j / 2 ^ w * 2 ^ w + j % 2 ^ w ≡ j
    split = div-add-mod' j (2 ^ w)

    lane : j % 2 ^ w < 2 ^ w
    lane = mod_below j (2 ^ w) (pow_pos w)

    whole : get_or (items ++ part) j d ≡ item
    whole = get_or_from_slice_get (items ++ part) j item d at

    go : (slice_get beats (j / 2 ^ w) ≡ Some y) ⊎ ((j / 2 ^ w ≡ length beats) × (x ≡ y)) → item ≡ said y (j % 2 ^ w)
    go (inl before) =
        let k = j / 2 ^ w in
        let inside : k < length beats = slice_get_within beats k y before in
        let row : (k + 1) * 2 ^ w ≤ length beats * 2 ^ w =
        mul-le (k + 1) (2 ^ w) (length beats) (2 ^ w) (omega (arith, inside)) (omega arith) in
        let more : (k + 1) * 2 ^ w ≡ k * 2 ^ w + 2 ^ w = search arith in
        let early : j < length items = omega (arith, counted, row, more, split, lane) in
        let same : get_or items j d ≡ item = sym (get_or_append_left items part d j early) ∙ whole in
        stand j item y (slice_get-get_or items j d early ∙ ap (λ (g : A). Some g) same) before
    go (inr last) =
        let i = j % 2 ^ w in
        let at_row : j / 2 ^ w * 2 ^ w ≡ length beats * 2 ^ w = ap (λ n. n * 2 ^ w) last.0 in
        let place : j ≡ length items + i = omega (arith, counted, at_row, split) in
        let here : get_or (items ++ part) j d ≡ get_or part i d =
        ap (λ n. get_or (items ++ part) n d) place ∙ get_or-append-add items part i d in
        sym whole ∙ here ∙ each i lane ∙ ap (λ (z : B). said z i) last.1
