-- Marks, one wide source after the other.
use Rattle.std.proofs.Common.{◌≡◌, ◌≢◌, ◌∙◌, ◌<◌, ◌≤◌, ◌+◌, ◌*◌, ◌↔◌, ℕ, inl, inr, ⊎_elim, List, length, set, Option, Some, None, IsSomeAnd, get_or, slice_get, refl, ap, sym, arith}
use Rattle.std.proofs.Math.Nat.{eq_of_mul-eq-mul_left}
use Rattle.std.proofs.lemmas.Bool.{cases_lt}
use Rattle.std.proofs.lemmas.Bool.Decides.{eqb_tells}
use Rattle.std.proofs.lemmas.Option.{slice_get_within, slice_get-get_or}
use Rattle.tl_types.proofs.Lists.{slice_get-set_same, slice_get-set_other}
use Rattle.tl_map.specs.Owner.{IsOf, IsWideSource, Widens}
use Rattle.tl_map.specs.Owners.{AreApartBelow, IsLawfulOwner, IsSharedBy, SharesNone}
use Rattle.tl_map.specs.Marks.{IsBefore, IsMarkedUpTo}
use Rattle.tl_map.specs.declared.owners.Owner.{Owner}

-- what holds of an owner that is there, and back
pub of_owner : (owners : List Owner) (master source wide : ℕ) (owner : Owner) → slice_get owners master ≡ Some owner
    → Widens owner source wide → IsWideSource owners master source wide
of_owner owners master source wide owner at widens = rw at widens

pub to_owner : (owners : List Owner) (master source wide : ℕ) (owner : Owner) → slice_get owners master ≡ Some owner
    → IsWideSource owners master source wide → Widens owner source wide
to_owner owners master source wide owner at is = rw at at is

-- a master that has a wide source is there
pub there : (owners : List Owner) (master source wide : ℕ) → IsWideSource owners master source wide → master < length owners
there owners master source wide is = go (slice_get owners master) refl is where
  go : (found : Option Owner) → slice_get owners master ≡ found
      → IsSomeAnd found (λ owner. Widens owner source wide) → master < length owners
  go None at none = absurd none
  go (Some owner) at widens = slice_get_within owners master owner at

-- two sources of an owner with one wide source are one
pub one_source : (owner : Owner) (source other wide : ℕ) → 0 < owner.stride → Widens owner source wide
    → Widens owner other wide → source ≡ other
one_source owner source other wide apart first second =
    let same : owner.stride * source ≡ owner.stride * other =
    let a = first.at in
    let b = second.at in
    omega (arith, a, b) in
    eq_of_mul-eq-mul_left owner.stride apart source other same

module _ (owners : List Owner) (master : ℕ) (owner : Owner) (at : slice_get owners master ≡ Some owner) (lawful : IsLawfulOwner owner) where
  -- the wide source of a source, which is neither marked nor an earlier one
  module _ (source wide : ℕ) (widens : Widens owner source wide) (marks : List (Option ℕ)) (marked : IsMarkedUpTo owners master source marks) where
    -- a mark that stands there is an earlier master's
    pub is_earlier : (other : ℕ) → slice_get marks wide ≡ Some (Some other) → (other < master) × IsOf owners other wide
    is_earlier other found = ⊎_elim (λ earlier. earlier) own ((marked.each wide other).0 found) where
      own : (other ≡ master) × ((own : ℕ) × (own < source) × IsWideSource owners master own wide)
          → (other < master) × IsOf owners other wide
      own (same, (less, before, is)) =
          let one : less ≡ source = one_source owner less source wide lawful.apart
          (to_owner owners master less wide owner at is) widens in
          absurd (omega (arith, one, before))

    -- where no mark stands, no earlier master has the wide source
    pub not_earlier : (other : ℕ) → slice_get marks wide ≡ Some None → other < master → IsOf owners other wide → ⊥
    not_earlier other none before of =
        let found : slice_get marks wide ≡ Some (Some other) = (marked.each wide other).1 (inl (before, of)) in
        absurd (cc)

    -- what stands before the next source: what stood before this one, and its own wide source
    before_next : (other place : ℕ) → place ≢ wide → IsBefore owners master (source + 1) other place
        → IsBefore owners master source other place
    before_next other place apart (inl earlier) = inl earlier
    before_next other place apart (inr (same, (own, less, is))) = ⊎_elim
        (λ (below : own < source). inr (same, (own, below, is)))
        (λ (here : source ≤ own).
        let one : own ≡ source = omega (arith, less, here) in
        let mine : Widens owner source place = rw one at (to_owner owners master own place owner at is) in
        absurd (apart (mine.at ∙ sym widens.at)))
        (cases_lt own source)

    before_more : (other place : ℕ) → IsBefore owners master source other place
        → IsBefore owners master (source + 1) other place
    before_more other place (inl earlier) = inl earlier
    before_more other place (inr (same, (own, less, is))) = inr (same, (own, omega (arith, less), is))

    here : (place other : ℕ) → wide < length marks → slice_get marks wide ≡ Some None → wide ≡ place
        → (slice_get (set marks wide (Some master)) place ≡ Some (Some other))
        ↔ IsBefore owners master (source + 1) other place
    here place other within none same = (
      λ found. let now : Some (Some master) ≡ Some (Some other) =
          sym (slice_get-set_same marks wide (Some master) within)
          ∙ ap (λ k. slice_get (set marks wide (Some master)) k) same ∙ found in
          let own : master ≡ other = cc in
          inr (sym own, (source, omega arith, of_owner owners master source place owner at (rw (← same) widens))),
      λ before. ap (λ k. slice_get (set marks wide (Some master)) k) (sym same)
          ∙ slice_get-set_same marks wide (Some master) within ∙ ap (λ m. Some (Some m)) (sym (mine before)),
    ) where
      mine : IsBefore owners master (source + 1) other place → other ≡ master
      mine (inl (before, of)) = absurd (not_earlier other none before (rw same of))
      mine (inr (is, more)) = is

    elsewhere : (place other : ℕ) → wide ≢ place
        → (slice_get (set marks wide (Some master)) place ≡ Some (Some other))
        ↔ IsBefore owners master (source + 1) other place
    elsewhere place other apart =
        let stays = slice_get-set_other marks wide place (Some master) apart in (
          λ found. before_more other place ((marked.each place other).0 (sym stays ∙ found)),
          λ before. stays ∙ (marked.each place other).1 (before_next other place (λ p. apart (sym p)) before),
        )

    pub one_marked : wide < length marks → slice_get marks wide ≡ Some None
        → IsMarkedUpTo owners master (source + 1) (set marks wide (Some master))
    one_marked within none = record {
      each = λ place other. ⊎_elim
          (λ same. here place other within none same.1)
          (λ apart. elsewhere place other apart.1)
          (eqb_tells wide place);
    }

    -- none of the sources up to this one is an earlier master's
    pub one_apart : slice_get marks wide ≡ Some None → SharesNone owners master source
        → SharesNone owners master (source + 1)
    one_apart none before own other place less is earlier of = ⊎_elim
        (λ (below : own < source). before own other place below is earlier of)
        (λ (last : source ≤ own).
        let one : own ≡ source = omega (arith, less, last) in
        let mine : Widens owner source place = rw one at (to_owner owners master own place owner at is) in
        let same : place ≡ wide = mine.at ∙ sym widens.at in
        not_earlier other none earlier (rw same at of))
        (cases_lt own source)

    -- the first that is found marked is shared
    pub is_shared : (other : ℕ) → slice_get marks wide ≡ Some (Some other) → SharesNone owners master source
        → IsSharedBy owners other master wide
    is_shared other found first =
        let earlier = is_earlier other found in
        record {
          before = earlier.0;
          is = earlier.1;
          source = source;
          at = of_owner owners master source wide owner at widens;
          first = first;
        }

  -- all sources of the master are marked
  pub all_marked : (marks : List (Option ℕ)) → IsMarkedUpTo owners master owner.count marks
      → IsMarkedUpTo owners (master + 1) 0 marks
  all_marked marks marked = record {
    each = λ wide other. (
      λ found. up wide other ((marked.each wide other).0 found),
      λ before. (marked.each wide other).1 (down wide other before),
    );
  } where
    up : (wide other : ℕ) → IsBefore owners master owner.count other wide → IsBefore owners (master + 1) 0 other wide
    up wide other (inl (before, of)) = inl (omega (arith, before), of)
    up wide other (inr (same, (own, less, is))) = inl (omega (arith, same), (own, rw (same) is))

    down : (wide other : ℕ) → IsBefore owners (master + 1) 0 other wide → IsBefore owners master owner.count other wide
    down wide other (inl (before, (own, is))) = ⊎_elim
        (λ (earlier : other < master). inl (earlier, (own, is)))
        (λ (last : master ≤ other).
        let same : other ≡ master = omega (arith, before, last) in
        let mine : IsWideSource owners master own wide = rw same at is in
        inr (same, (own, (to_owner owners master own wide owner at mine).has, mine)))
        (cases_lt other master)
    down wide other (inr (same, (own, less, is))) = absurd (omega (arith, less))

  -- so no two masters up to this one have a wide source in common
  pub apart_next : SharesNone owners master owner.count → AreApartBelow owners master → AreApartBelow owners (master + 1)
  apart_next none before one other wide less below shared = ⊎_elim
      (λ (earlier : other < master). before one other wide less earlier shared)
      (λ (last : master ≤ other).
      let same : other ≡ master = omega (arith, below, last) in
      let of : IsOf owners master wide = rw same at shared.of_other in
      let has = (to_owner owners master of.0 wide owner at of.1).has in
      none of.0 one wide has of.1 (rw same at less) shared.of_one)
      (cases_lt other master)

-- a place without a mark
pub no_mark : (marks : List (Option ℕ)) (wide : ℕ) → wide < length marks
    → ((x : ℕ) → get_or marks wide None ≡ Some x → ⊥) → slice_get marks wide ≡ Some None
no_mark marks wide within not_some =
    slice_get-get_or marks wide None within ∙ ap (λ m. Some m) (go (get_or marks wide None) refl) where
      go : (found : Option ℕ) → get_or marks wide None ≡ found → found ≡ None
      go None is = refl
      go (Some x) is = absurd (not_some x is)
