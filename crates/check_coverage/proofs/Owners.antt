-- Whose a wide source is.
use Rattle.std.proofs.Common.{◌≡◌, ◌∙◌, ℕ, zero, suc, ◌+◌, ◌-◌, ◌*◌, ◌/◌, ◌<◌, ◌≤◌, ◌⊎◌, inl, inr, Bool, true, false, List, [], ◌∷◌, Some, slice_get, length, refl, ap, sym, subst, arith, eqb-true, eq-eqb}
use Rattle.std.specs.Prelude.{◌==◌, if◌then◌else◌, All}
use Rattle.std.specs.List.{list_any, range_with_len}
use Rattle.std.proofs.Math.Nat.{mul-div_cancel_left}
use Rattle.std.proofs.lemmas.List.Elements.{All-get_or}
use Rattle.std.proofs.lemmas.Option.{get_or_from_slice_get, slice_get_within}
use Rattle.std.proofs.lemmas.Bool.{cases_eq, or_cases, or_left, or_right, true≢false}
use Rattle.tl_map.specs.Owner.{IsOf, IsWideSource, Widens}
use Rattle.tl_map.specs.Owners.{AreLawfulOwners, IsLawfulOwner}
use Rattle.tl_map.specs.declared.owners.Owner.{Owner}
use Rattle.check_coverage.specs.Flights.{master_of, own_source, owns}

-- ---- one owner

module _ (test : ℕ → Bool) where
  some_passes : (a n k : ℕ) → a ≤ k → k < a + n → test k ≡ true → list_any test (range_with_len a n) ≡ true
  some_passes a zero k above below passes = absurd (omega (arith, above, below))
  some_passes a (suc n) k above below passes =
      go (cases_eq a k) (λ next. some_passes (a + 1) n k next (omega (arith, below)) passes)
    where
      go : (a ≡ k) ⊎ (a ≡ k → ⊥) → (a + 1 ≤ k → list_any test (range_with_len (a + 1) n) ≡ true)
          → list_any test (range_with_len a (suc n)) ≡ true
      go (inl same) later =
          or_left (test a) (list_any test (range_with_len (a + 1) n)) (subst (λ j. test j ≡ true) (sym same) passes)
      go (inr apart) later =
          or_right (test a) (list_any test (range_with_len (a + 1) n)) (later (omega (arith, above, apart)))

  record Passes (a n : ℕ) : Type 0 where
    k : ℕ
    below : k < a + n
    above : a ≤ k
    passes : test k ≡ true

  passing : (a n : ℕ) → list_any test (range_with_len a n) ≡ true → Passes a n
  passing a zero is = absurd (true≢false (sym is))
  passing a (suc n) is = go (or_cases (test a) (list_any test (range_with_len (a + 1) n)) is) (passing (a + 1) n)
    where
      go : (test a ≡ true) ⊎ (list_any test (range_with_len (a + 1) n) ≡ true)
          → (list_any test (range_with_len (a + 1) n) ≡ true → Passes (a + 1) n) → Passes a (suc n)
      go (inl here) rest = record { k = a; below = omega arith; above = omega arith; passes = here }
      go (inr later) rest =
          let found = rest later in
          let below = found.below in
          let above = found.above in
          record { k = found.k; below = omega (arith, below); above = omega (arith, above); passes = found.passes }

owns_wide : (owner : Owner) (source wide : ℕ) → Widens owner source wide → owns owner wide ≡ true
owns_wide owner source wide widens =
    let has = widens.has in
    some_passes (λ k. owner.first + owner.stride * k == wide) 0 owner.count source (omega arith) (omega (arith, has))
    (eq-eqb (owner.first + owner.stride * source) wide (sym widens.at))

source_owned : (owner : Owner) (wide : ℕ) → owns owner wide ≡ true → (source : ℕ) × Widens owner source wide
source_owned owner wide is =
    let found = passing (λ k. owner.first + owner.stride * k == wide) 0 owner.count is in
    let below = found.below in (
      found.k,
      record {
        has = omega (arith, below);
        at = sym (eqb-true (owner.first + owner.stride * found.k) wide found.passes);
      },
    )

-- ---- all owners

owned_here : (owner : Owner) (owners : List Owner) (wide : ℕ) → owns owner wide ≡ true
    → IsOf (owner ∷ owners) (master_of (owner ∷ owners) wide) wide
owned_here owner owners wide is =
    subst (λ k. IsOf (owner ∷ owners) k wide) (sym (ap (λ b. if b then 0 else master_of owners wide + 1) is))
    (source_owned owner wide is)

owned_later : (owner : Owner) (owners : List Owner) (wide : ℕ) → owns owner wide ≡ false
    → IsOf owners (master_of owners wide) wide → IsOf (owner ∷ owners) (master_of (owner ∷ owners) wide) wide
owned_later owner owners wide is of =
    let next : suc (master_of owners wide) ≡ master_of owners wide + 1 = omega arith in
    subst (λ k. IsOf (owner ∷ owners) k wide)
    (next ∙ sym (ap (λ b. if b then 0 else master_of owners wide + 1) is)) of

is_master : (owners : List Owner) (m wide : ℕ) → IsOf owners m wide → IsOf owners (master_of owners wide) wide
is_master [] m wide of = absurd of.1
is_master (owner ∷ owners) m wide of = go (owns owner wide) refl m of (λ k has. is_master owners k wide has)
  where
    go : (b : Bool) → owns owner wide ≡ b → (k : ℕ) → IsOf (owner ∷ owners) k wide
        → ((j : ℕ) → IsOf owners j wide → IsOf owners (master_of owners wide) wide)
        → IsOf (owner ∷ owners) (master_of (owner ∷ owners) wide) wide
    go true is k has rest = owned_here owner owners wide is
    go false is zero has rest = absurd (true≢false (sym (owns_wide owner has.0 wide has.1) ∙ is))
    go false is (suc k) has rest = owned_later owner owners wide is (rest k has)

-- no two masters have a wide source in common
pub master_is : (owners : List Owner) (m source wide : ℕ) → AreLawfulOwners owners → IsWideSource owners m source wide
    → m ≡ master_of owners wide
master_is owners m source wide lawful is =
    lawful.apart m (master_of owners wide) wide
    (record { of_one = (source, is); of_other = is_master owners m wide (source, is) })

pub master_none : (owners : List Owner) (wide : ℕ) → ((m source : ℕ) → IsWideSource owners m source wide → ⊥)
    → length owners ≡ master_of owners wide
master_none [] wide none = refl
master_none (owner ∷ owners) wide none =
    go (owns owner wide) refl (master_none owners wide (λ m source has. none (suc m) source has))
  where
    go : (b : Bool) → owns owner wide ≡ b → length owners ≡ master_of owners wide
        → length (owner ∷ owners) ≡ master_of (owner ∷ owners) wide
    go true is rest = let has = source_owned owner wide is in absurd (none 0 has.0 has.1)
    go false is rest =
        let here : length (owner ∷ owners) ≡ master_of owners wide + 1 = omega (arith, rest) in
        here ∙ sym (ap (λ b. if b then 0 else master_of owners wide + 1) is)

-- ---- the master's own source

source_at : (owner : Owner) (source wide : ℕ) → 0 < owner.stride → Widens owner source wide
    → source ≡ (wide - owner.first) / owner.stride
source_at owner source wide positive widens =
    let at = widens.at in
    let apart : owner.stride * source ≡ wide - owner.first = omega (arith, at) in
    sym (mul-div_cancel_left source positive) ∙ ap (λ n. n / owner.stride) apart

source_by : (owners : List Owner) (m source wide : ℕ)
    → ((k : ℕ) (owner : Owner) → slice_get owners k ≡ Some owner → 0 < owner.stride)
    → IsWideSource owners m source wide → m ≡ master_of owners wide → source ≡ own_source owners wide
source_by [] m source wide positive is at = absurd is
source_by (owner ∷ owners) m source wide positive is at =
    go (owns owner wide) refl m is at
    (λ k of there. source_by owners k source wide (λ j o found. positive (suc j) o found) of there)
  where
    by : Bool → ℕ
    by b = if b then (wide - owner.first) / owner.stride else own_source owners wide

    place : Bool → ℕ
    place b = if b then 0 else master_of owners wide + 1

    go : (b : Bool) → owns owner wide ≡ b → (k : ℕ) → IsWideSource (owner ∷ owners) k source wide
        → k ≡ master_of (owner ∷ owners) wide
        → ((j : ℕ) → IsWideSource owners j source wide → j ≡ master_of owners wide → source ≡ own_source owners wide)
        → source ≡ own_source (owner ∷ owners) wide
    go true so zero of there rest =
        source_at owner source wide (positive 0 owner refl) of ∙ sym (ap (λ b. by b) so)
    go true so (suc k) of there rest =
        let none : suc k ≡ 0 = there ∙ ap (λ b. place b) so in absurd (omega (arith, none))
    go false so zero of there rest = absurd (true≢false (sym (owns_wide owner source wide of) ∙ so))
    go false so (suc k) of there rest =
        let next : suc k ≡ master_of owners wide + 1 = there ∙ ap (λ b. place b) so in
        rest k of (omega (arith, next)) ∙ sym (ap (λ b. by b) so)

lawful_at : (owners : List Owner) (k : ℕ) (owner : Owner) → All IsLawfulOwner owners → slice_get owners k ≡ Some owner
    → IsLawfulOwner owner
lawful_at owners k owner all there =
    subst IsLawfulOwner (get_or_from_slice_get owners k owner owner there)
    (All-get_or IsLawfulOwner owners k owner (slice_get_within owners k owner there) all)

pub source_is : (owners : List Owner) (m source wide : ℕ) → AreLawfulOwners owners → IsWideSource owners m source wide
    → source ≡ own_source owners wide
source_is owners m source wide lawful is =
    source_by owners m source wide (λ k owner there. (lawful_at owners k owner lawful.each there).apart) is
    (master_is owners m source wide lawful is)

pub source_none : (owners : List Owner) (wide : ℕ) → ((m source : ℕ) → IsWideSource owners m source wide → ⊥)
    → 0 ≡ own_source owners wide
source_none [] wide none = refl
source_none (owner ∷ owners) wide none =
    go (owns owner wide) refl (source_none owners wide (λ m source has. none (suc m) source has))
  where
    go : (b : Bool) → owns owner wide ≡ b → 0 ≡ own_source owners wide → 0 ≡ own_source (owner ∷ owners) wide
    go true is rest = let has = source_owned owner wide is in absurd (none 0 has.0 has.1)
    go false is rest = rest ∙ sym (ap (λ b. if b then (wide - owner.first) / owner.stride else own_source owners wide) is)
