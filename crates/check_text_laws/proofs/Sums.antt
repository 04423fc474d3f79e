-- The counts of the entries of a kind add up to how many bins of that kind there are.
use Rattle.std.proofs.Common.{◌≡◌, ◌∙◌, ℕ, ◌+◌, ◌≤◌, Bool, true, false, cond, if◌then◌else◌, List, [], ◌∷◌, Some, refl, ap, sym, subst, arith}
use Rattle.std.specs.Prelude.{unwrap_or}
use Rattle.std.specs.Ordering.{is_eq}
use Rattle.std.specs.BTreeMap.{is_at}
use Rattle.std.specs.List.{AllByRecursion}
use Rattle.std.specs.List.Sorted.{IsStrictlySortedBy}
use Rattle.std.specs.Map.{keys_of, lookup}
use Rattle.std.specs.declared.cmp.Ordering.TheVariants.{Less}
use Rattle.std.proofs.lemmas.Bool.{true≢false}
use Rattle.check_bins.specs.declared.bin.Bin.{Bin}
use Rattle.check_bins.specs.Counting.{bin_cmp, how_often}
use Rattle.check_bins.proofs.Exact.{exact_eq, same}
use Rattle.check_text_laws.specs.Sums.{sum_of}
use Rattle.check_text_laws.proofs.Numbers.{how_many}

-- two bins are the same
abbrev are_same : Bin → Bin → Bool
are_same one other = is_eq (bin_cmp one other)

turned : (one other : Bin) → are_same one other ≡ false → are_same other one ≡ false
turned one other apart = go (are_same other one) refl
  where
    go : (b : Bool) → are_same other one ≡ b → b ≡ false
    go true is = absurd (true≢false (sym (same one other (sym (exact_eq other one is))) ∙ apart))
    go false is = refl

-- those that are not this one
abbrev without : Bin → List Bin → List Bin
without bin [] = []
without bin (x ∷ xs) = if are_same x bin then without bin xs else x ∷ without bin xs

often_own : (bin : Bin) (xs : List Bin) → how_often bin (without bin xs) ≡ 0
often_own bin [] = refl
often_own bin (x ∷ xs) = go (are_same x bin) refl (often_own bin xs)
  where
    go : (b : Bool) → are_same x bin ≡ b → how_often bin (without bin xs) ≡ 0
        → how_often bin (if b then without bin xs else x ∷ without bin xs) ≡ 0
    go true is rest = rest
    go false is rest =
        ap (λ t. if t then how_often bin (without bin xs) + 1 else how_often bin (without bin xs)) is ∙ rest

often_other : (bin other : Bin) → are_same bin other ≡ false → (xs : List Bin)
    → how_often other (without bin xs) ≡ how_often other xs
often_other bin other apart [] = refl
often_other bin other apart (x ∷ xs) = go (are_same x bin) refl (often_other bin other apart xs)
  where
    go : (b : Bool) → are_same x bin ≡ b → how_often other (without bin xs) ≡ how_often other xs
        → how_often other (if b then without bin xs else x ∷ without bin xs)
        ≡ (if are_same x other then how_often other xs + 1 else how_often other xs)
    go true is rest =
        let not : are_same x other ≡ false = ap (λ b. are_same b other) (exact_eq x bin is) ∙ apart in
        rest ∙ sym (ap (λ t. if t then how_often other xs + 1 else how_often other xs) not)
    go false is rest = ap (λ n. if are_same x other then n + 1 else n) rest

module _ (is_one : Bin → Bool) where
  abbrev if_one : Bool → ℕ → ℕ
  if_one b n = if b then n else 0

  split : (bin : Bin) (xs : List Bin)
      → how_many is_one xs ≡ how_many is_one (without bin xs) + if_one (is_one bin) (how_often bin xs)
  split bin [] = none (is_one bin)
    where
      none : (b : Bool) → 0 ≡ 0 + if_one b 0
      none true = refl
      none false = refl
  split bin (x ∷ xs) = go (are_same x bin) refl (is_one bin) (is_one x) refl refl (split bin xs)
    where
      go : (b : Bool) → are_same x bin ≡ b → (mine its : Bool) → is_one bin ≡ mine → is_one x ≡ its
          → how_many is_one xs ≡ how_many is_one (without bin xs) + if_one mine (how_often bin xs)
          → (if its then 1 else 0) + how_many is_one xs
          ≡ how_many is_one (if b then without bin xs else x ∷ without bin xs)
          + if_one mine (if b then how_often bin xs + 1 else how_often bin xs)
      go true is true true so other rest = omega (arith, rest)
      go true is false false so other rest = omega (arith, rest)
      go true is true false so other rest =
          absurd (true≢false (sym so ∙ sym (ap is_one (exact_eq x bin is)) ∙ other))
      go true is false true so other rest =
          absurd (true≢false (sym other ∙ ap is_one (exact_eq x bin is) ∙ so))
      go false is true true so other rest =
          let kept : how_many is_one (x ∷ without bin xs) ≡ 1 + how_many is_one (without bin xs) =
          ap (λ t. (if t then 1 else 0) + how_many is_one (without bin xs)) other in
          omega (arith, rest, kept)
      go false is true false so other rest =
          let kept : how_many is_one (x ∷ without bin xs) ≡ 0 + how_many is_one (without bin xs) =
          ap (λ t. (if t then 1 else 0) + how_many is_one (without bin xs)) other in
          omega (arith, rest, kept)
      go false is false true so other rest =
          let kept : how_many is_one (x ∷ without bin xs) ≡ 1 + how_many is_one (without bin xs) =
          ap (λ t. (if t then 1 else 0) + how_many is_one (without bin xs)) other in
          omega (arith, rest, kept)
      go false is false false so other rest =
          let kept : how_many is_one (x ∷ without bin xs) ≡ 0 + how_many is_one (without bin xs) =
          ap (λ t. (if t then 1 else 0) + how_many is_one (without bin xs)) other in
          omega (arith, rest, kept)

  pub often_at_most : (bin : Bin) (xs : List Bin) → is_one bin ≡ true → how_often bin xs ≤ how_many is_one xs
  often_at_most bin xs is =
      let sum : how_many is_one xs ≡ how_many is_one (without bin xs) + how_often bin xs =
      split bin xs ∙ ap (λ b. how_many is_one (without bin xs) + if_one b (how_often bin xs)) is in
      omega (arith, sum)

  -- where none of a kind occurs there is none
  none_of : (xs : List Bin) → ((bin : Bin) → is_one bin ≡ true → how_often bin xs ≡ 0) → how_many is_one xs ≡ 0
  none_of [] none = refl
  none_of (x ∷ xs) none = go (is_one x) refl (none_of xs less)
    where
      less : (bin : Bin) → is_one bin ≡ true → how_often bin xs ≡ 0
      less bin is = by (are_same x bin) (none bin is)
        where
          by : (b : Bool) → (if b then how_often bin xs + 1 else how_often bin xs) ≡ 0 → how_often bin xs ≡ 0
          by true so = absurd (omega (arith, so))
          by false so = so

      go : (b : Bool) → is_one x ≡ b → how_many is_one xs ≡ 0 → (if b then 1 else 0) + how_many is_one xs ≡ 0
      go true is rest =
          let own : (if are_same x x then how_often x xs + 1 else how_often x xs) ≡ how_often x xs + 1 =
          ap (λ t. if t then how_often x xs + 1 else how_often x xs) (same x x refl) in
          let some = none x is in
          absurd (omega (arith, own, some))
      go false is rest = omega (arith, rest)

  -- ---- entries

  abbrev count_in : List (Bin × ℕ) → Bin → ℕ
  count_in entries bin = unwrap_or (lookup (is_at (bin_cmp bin)) entries) 0

  not_below : (bin : Bin) (entries : List (Bin × ℕ))
      → AllByRecursion (λ (key : Bin). bin_cmp bin key ≡ Less) (keys_of entries) → count_in entries bin ≡ 0
  not_below bin [] all = refl
  not_below bin (e ∷ es) all =
      ap (λ o. unwrap_or (cond (is_eq o) (Some e.1) (lookup (is_at (bin_cmp bin)) es)) 0) all.0
      ∙ not_below bin es all.1

  pub sum_is : (entries : List (Bin × ℕ)) (xs : List Bin) → IsStrictlySortedBy bin_cmp (keys_of entries)
      → ((bin : Bin) → is_one bin ≡ true → how_often bin xs ≡ count_in entries bin)
      → sum_of is_one entries ≡ how_many is_one xs
  unfolding IsStrictlySortedBy
  sum_is [] xs sorted counts = sym (none_of xs counts)
  sum_is (e ∷ es) xs sorted counts =
      let rest = sum_is es (without e.0 xs) sorted.1 others in
      let sum = split e.0 xs in
      let own = here (is_one e.0) refl in
      omega (arith, rest, sum, own)
    where
      others : (bin : Bin) → is_one bin ≡ true → how_often bin (without e.0 xs) ≡ count_in es bin
      others bin is = go (are_same bin e.0) refl (counts bin is)
        where
          go : (b : Bool) → are_same bin e.0 ≡ b
              → how_often bin xs ≡ unwrap_or (cond b (Some e.1) (lookup (is_at (bin_cmp bin)) es)) 0
              → how_often bin (without e.0 xs) ≡ count_in es bin
          go true so counted =
              let is_key : bin ≡ e.0 = exact_eq bin e.0 so in
              subst (λ k. how_often k (without e.0 xs) ≡ count_in es k) (sym is_key)
              (often_own e.0 xs ∙ sym (not_below e.0 es sorted.0))
          go false so counted = often_other e.0 bin (turned bin e.0 so) xs ∙ counted

      here : (b : Bool) → is_one e.0 ≡ b → if_one b e.1 ≡ if_one b (how_often e.0 xs)
      here true is =
          sym (counts e.0 is
          ∙ ap (λ t. unwrap_or (cond t (Some e.1) (lookup (is_at (bin_cmp e.0)) es)) 0) (same e.0 e.0 refl))
      here false is = refl
