-- What the marks that are kept say.
use Rattle.std.proofs.Common.{◌≡◌, ◌∙◌, ◌<◌, ◌≤◌, ◌+◌, ◌-◌, ◌*◌, ◌/◌, ◌↔◌, ℕ, inl, inr, ◌⊎◌, ⊎_elim, List, length, Option, Some, None, IsSomeAnd, All, get_or, slice_get, refl, ap, sym, arith}
use Rattle.std.proofs.Math.Nat.{mul-div_cancel_left, mul-le-mul_left}
use Rattle.std.specs.Prelude.{IsTrue, is_some}
use Rattle.std.proofs.lemmas.Bool.{cases_lt}
use Rattle.std.proofs.lemmas.Option.{slice_get_within, slice_get-get_or, get_or_from_slice_get}
use Rattle.tl_map.specs.Owner.{IsOf, IsOwned, IsWideSource, Widens}
use Rattle.tl_map.specs.Owners.{AreApartBelow, AreLawfulOwners, IsLawfulOwner, IsShared}
use Rattle.tl_map.specs.Marks.{AreKept, AreMarked, HasRoomFor, IsBefore, IsMarkedUpTo}
use Rattle.tl_map.specs.declared.owners.Owner.{Owner}
use Rattle.tl_map.proofs.Marking.{to_owner, of_owner, there, one_source}

-- an owner that is there is lawful
pub lawful_at : (owners : List Owner) (master : ℕ) (owner : Owner) → All IsLawfulOwner owners
    → slice_get owners master ≡ Some owner → IsLawfulOwner owner
lawful_at owners master owner all at =
    rw (get_or_from_slice_get owners master owner owner at) at
    (all master owner (slice_get_within owners master owner at))

-- the source is what is left of the wide source, by the stride
pub source_is : (owner : Owner) (source wide : ℕ) → 0 < owner.stride → Widens owner source wide
    → (wide - owner.first) / owner.stride ≡ source
source_is owner source wide apart widens =
    let left : wide - owner.first ≡ owner.stride * source = let at = widens.at in omega (arith, at) in
    rw left (mul-div_cancel_left source apart)

pub widens_back : (owner : Owner) (source wide : ℕ) → 0 < owner.stride → Widens owner source wide
    → Widens owner ((wide - owner.first) / owner.stride) wide
widens_back owner source wide apart widens = rw (source_is owner source wide apart widens) widens

-- the wide source of a source is no larger than that of the last
pub wide_low : (owner : Owner) (source wide : ℕ) → IsLawfulOwner owner → Widens owner source wide
    → wide < owner.first + owner.stride * (owner.count - 1) + 1
wide_low owner source wide lawful widens =
    let below : source ≤ owner.count - 1 = let has = widens.has in omega (arith, has) in
    let scaled : owner.stride * source ≤ owner.stride * (owner.count - 1) = mul-le-mul_left owner.stride below in
    let is = widens.at in
    omega (arith, scaled, is)

-- a master's wide source is owned
pub owned_at : (owners : List Owner) (master source wide : ℕ) → IsWideSource owners master source wide → IsOwned owners wide
owned_at owners master source wide is = (master, (source, is))

-- when all masters are marked
pub marked_all : (owners : List Owner) (marks : List (Option ℕ)) → IsMarkedUpTo owners (length owners) 0 marks
    → AreMarked owners marks
marked_all owners marks marked = λ wide master. (
  λ found. of wide master ((marked.each wide master).0 found),
  λ is. (marked.each wide master).1 (inl (there owners master is.0 wide is.1, is)),
) where
  of : (wide master : ℕ) → IsBefore owners (length owners) 0 master wide → IsOf owners master wide
  of wide master (inl (below, is)) = is
  of wide master (inr (same, (own, less, is))) = absurd (omega (arith, less))

pub apart_all : (owners : List Owner) → AreApartBelow owners (length owners)
    → (one other wide : ℕ) → IsShared owners one other wide → one ≡ other
apart_all owners apart one other wide shared = ⊎_elim
    (λ (less : one < other).
    absurd (apart one other wide less (there owners other shared.of_other.0 wide shared.of_other.1) shared))
    (λ (more : other ≤ one). ⊎_elim
    (λ (less : other < one).
    let back : IsShared owners other one wide = record { of_one = shared.of_other; of_other = shared.of_one } in
    absurd (apart other one wide less (there owners one shared.of_one.0 wide shared.of_one.1) back))
    (λ (same : one ≤ other). omega (arith, more, same))
    (cases_lt other one))
    (cases_lt one other)

-- ---- room for marks

-- this many masters have no wide source at or above the bound, and one has the last below it
pub record IsBoundUpTo (owners : List Owner) (masters bound : ℕ) : Type 0 where
  pub above : (master source wide : ℕ) → master < masters → IsWideSource owners master source wide → wide < bound
  pub least : (other : ℕ) → ((wide : ℕ) → IsOwned owners wide → wide < other) → bound ≤ other
  pub low : bound ≤ 65536

-- the last wide source of an owner is owned
pub last_owned : (owners : List Owner) (master : ℕ) (owner : Owner) → slice_get owners master ≡ Some owner
    → IsLawfulOwner owner → IsOwned owners (owner.first + owner.stride * (owner.count - 1))
last_owned owners master owner at lawful =
    owned_at owners master (owner.count - 1) (owner.first + owner.stride * (owner.count - 1))
    (of_owner owners master (owner.count - 1) (owner.first + owner.stride * (owner.count - 1)) owner at
    (record { has = let some = lawful.some in omega (arith, some); at = refl }))

pub bound_more : (owners : List Owner) (master bound next : ℕ) (owner : Owner) → slice_get owners master ≡ Some owner
    → IsLawfulOwner owner → IsBoundUpTo owners master bound
    → bound ≤ next → owner.first + owner.stride * (owner.count - 1) + 1 ≤ next
    → ((next ≡ bound) ⊎ (next ≡ owner.first + owner.stride * (owner.count - 1) + 1))
    → IsBoundUpTo owners (master + 1) next
bound_more owners master bound next owner at lawful so_far up over either = record {
  above = λ m source wide less is. ⊎_elim
      (λ (earlier : m < master). let low = so_far.above m source wide earlier is in omega (arith, low, up))
      (λ (last : master ≤ m).
      let same : m ≡ master = omega (arith, less, last) in
      let mine : Widens owner source wide = to_owner owners master source wide owner at (rw same at is) in
      let low = wide_low owner source wide lawful mine in
      omega (arith, low, over))
      (cases_lt m master);
  least = λ other all. ⊎_elim
      (λ (same : next ≡ bound). let few = so_far.least other all in omega (arith, few, same))
      (λ (same : next ≡ owner.first + owner.stride * (owner.count - 1) + 1).
      let few = all (owner.first + owner.stride * (owner.count - 1)) (last_owned owners master owner at lawful) in
      omega (arith, few, same))
      either;
  low = ⊎_elim
      (λ (same : next ≡ bound). let few = so_far.low in omega (arith, few, same))
      (λ (same : next ≡ owner.first + owner.stride * (owner.count - 1) + 1).
      let few = lawful.in_range in omega (arith, few, same))
      either;
}

-- the bound of all masters
pub room_from : (owners : List Owner) (masters bound : ℕ) → length owners ≤ masters → IsBoundUpTo owners masters bound
    → HasRoomFor owners bound
room_from owners masters bound all is = record {
  above = λ wide owned.
      is.above owned.0 owned.1.0 wide (let below = there owners owned.0 owned.1.0 wide owned.1.1 in omega (arith, below, all))
      owned.1.1;
  least = is.least;
}

-- ---- what a judge finds

-- the mark of a wide source, and its master's sources
pub marked_is : (owners : List Owner) (marks : List (Option ℕ)) → AreKept owners marks → (wide master : ℕ)
    → slice_get marks wide ≡ Some (Some master) → IsOf owners master wide
marked_is owners marks kept wide master found = (kept.marked wide master).0 found

-- of a wide source there is one master and one source
pub one_owner : (owners : List Owner) → AreLawfulOwners owners → (master source other own wide : ℕ)
    → IsWideSource owners master source wide → IsWideSource owners other own wide → (master ≡ other) × (source ≡ own)
one_owner owners lawful master source other own wide first second =
    let same : master ≡ other = lawful.apart master other wide (record { of_one = (source, first); of_other = (own, second) }) in
    let here : IsWideSource owners other source wide = rw (← same) first in
    (same, go (slice_get owners other) refl here second) where
      go : (found : Option Owner) → slice_get owners other ≡ found → IsSomeAnd found (λ owner. Widens owner source wide)
          → IsSomeAnd found (λ owner. Widens owner own wide) → source ≡ own
      go None at none also = absurd none
      go (Some owner) at one two =
          one_source owner source own wide (lawful_at owners other owner lawful.each at).apart one two

-- the owner that is there
pub owner_there : (owners : List Owner) (master source wide : ℕ) (owner : Owner) → IsWideSource owners master source wide
    → owner ≡ get_or owners master owner → slice_get owners master ≡ Some owner
owner_there owners master source wide owner is at =
    slice_get-get_or owners master owner (there owners master source wide is) ∙ ap (λ o. Some o) (sym at)

-- a wide source is owned just where it has a mark
pub owned_by_mark : (owners : List Owner) (marks : List (Option ℕ)) → AreKept owners marks → (wide : ℕ) (mark : Option ℕ)
    → ((master : ℕ) → (mark ≡ Some master) ↔ (slice_get marks wide ≡ Some (Some master)))
    → IsTrue (is_some mark) ↔ IsOwned owners wide
owned_by_mark owners marks kept wide None is = (
  λ never. absurd (cc),
  λ owned. let found = (is owned.0).1 ((kept.marked wide owned.0).1 owned.1) in absurd (cc),
)
owned_by_mark owners marks kept wide (Some master) is = (
  λ _. (master, (kept.marked wide master).0 ((is master).0 refl)),
  λ _. refl,
)

-- the parts of a pair that is there
pub some_parts : (a b m s : ℕ) → ◌≡◌ {A = Option (ℕ × ℕ)} (Some (a, b)) (Some (m, s)) → (a ≡ m) × (b ≡ s)
some_parts a b m s is =
    let pair : ◌≡◌ {A = ℕ × ℕ} (a, b) (m, s) = cc in
    (ap (λ (p : ℕ × ℕ). p.0) pair, ap (λ (p : ℕ × ℕ). p.1) pair)

-- a source of a master has one wide source
pub one_wide : (owners : List Owner) (master source wide other : ℕ) → IsWideSource owners master source wide
    → IsWideSource owners master source other → wide ≡ other
one_wide owners master source wide other first second = go (slice_get owners master) first second where
  go : (found : Option Owner) → IsSomeAnd found (λ owner. Widens owner source wide)
      → IsSomeAnd found (λ owner. Widens owner source other) → wide ≡ other
  go None none also = absurd none
  go (Some owner) one two = one.at ∙ sym two.at
