-- Messages compared cut by cut.
use Rattle.std.proofs.Common.{◌≡◌, ℕ, zero, suc, ◌+◌, ◌*◌, ◌/◌, ◌<◌, ◌≤◌, ◌⊎◌, inl, inr, Bool, false, true, min, List, [], ◌∷◌, length, Option, None, Some, slice_get, not, eqb, eq-eqb, ap, sym, refl, arith}
use Rattle.std.specs.Prelude.{◌↔◌, IsTrue, slice_index_or}
use Rattle.std.specs.Option.{option_eq}
use Rattle.std.proofs.Math.Nat.{div-lt_iff_lt-mul, mul-div-le, lt-mul-div-succ}
use Rattle.std.proofs.lemmas.Bool.{cases_lt}
use Rattle.std.proofs.lemmas.Option.{slice_get_past}
use Rattle.check_flight.specs.Crossing.{MessageBytes, AreSameInCut, AreSameParts, IsCutSpoiled, IsSameCut}

-- ---- which places are in a cut

-- a place from the beginning of a cut on, and before the next one, is in it
pub in_cut : (width cut place : ℕ) → 0 < width → width * cut ≤ place → place < width * cut + width → place / width ≡ cut
in_cut width cut place some from to =
    let below = div-lt_iff_lt-mul {k = width} {x = place} {y = cut + 1} some in
    let above = div-lt_iff_lt-mul {k = width} {x = place} {y = cut} some in
    let under : place / width < cut + 1 = below.1 (omega arith) in
    grind (arith, above.0)

-- and there are no others
pub begins_before : (width cut place : ℕ) → place / width ≡ cut → width * cut ≤ place
begins_before width cut place is = rw is at (mul-div-le place width)

pub ends_after : (width cut place : ℕ) → 0 < width → place / width ≡ cut → place < width * cut + width
ends_after width cut place some is =
    let below : place < width * (cut + 1) = rw is at (lt-mul-div-succ place some) in omega arith

-- a place in a cut past that of another place is past it
pub past_cut : (width cut place places : ℕ) → 0 < width → places / width < cut → place / width ≡ cut → places ≤ place
past_cut width cut place places some past is =
    let place_below = div-lt_iff_lt-mul {k = width} {x = places} {y = cut} some in
    let before : places < cut * width = place_below.0 past in
    let from = begins_before width cut place is in
    omega arith

-- ---- marks

-- past the last mark none is set
pub mark_past : (marks : List Bool) (place : ℕ) → length marks ≤ place → slice_index_or marks place false ≡ false
mark_past [] place past = refl
mark_past (x ∷ marks) zero past = absurd (omega (arith, past))
mark_past (x ∷ marks) (suc place) past = mark_past marks place (omega (arith, past))

-- no mark is set at the places of a cut
pub none_spoiled : (width cut : ℕ) (reply : MessageBytes) → 0 < width
    → ((place : ℕ) → place / width ≡ cut → slice_index_or reply.spoiled place false ≡ false)
    → IsCutSpoiled width reply cut → ⊥
none_spoiled width cut reply some none spoiled =
    let isnt = none spoiled.0 spoiled.1 in let is = spoiled.2 in cc

-- ---- bytes

own_option : (a : Option ℕ) → option_eq eqb a a ≡ true
own_option None = refl
own_option (Some x) = eq-eqb x x refl

-- two bytes that a test tells apart are not the same
pub told_apart : (a b : Option ℕ) (r : Bool) → r ≡ not (option_eq eqb a b) → r ≡ true → Some a ≡ Some b → ⊥
told_apart a b r is told same =
    let alike : a ≡ b = cc in
    let equal : option_eq eqb a b ≡ true = rw (← alike) (own_option a) in
    let isnt : r ≡ false = rw equal at is in cc

-- the same bytes up to the end of a cut, or of both lists
pub same_in_cut : (width cut end : ℕ) (given captured : List (Option ℕ)) → 0 < width → length captured ≡ length given
    → min (length given) (width * cut + width) ≤ end
    → ((k : ℕ) → width * cut ≤ k → k < end → slice_get captured k ≡ slice_get given k)
    → AreSameInCut width cut given captured
same_in_cut width cut end given captured some paired is same place at =
    by_cases (cases_lt place (length given))
  where
    by_cases : (place < length given) ⊎ (length given ≤ place) → slice_get captured place ≡ slice_get given place
    by_cases (inl within) =
        same place (begins_before width cut place at) (omega (arith, is, ends_after width cut place some at, within))
    by_cases (inr past) =
        let left = slice_get_past captured place (omega (arith, paired, past)) in
        let right = slice_get_past given place past in cc

-- past the last byte and the last mark of both replies all cuts are the same
pub record AllWithin (places : ℕ) (reply : MessageBytes) : Type 0 where
  pub bytes : length reply.bytes ≤ places
  pub marks : length reply.spoiled ≤ places

past_spoiled : (width places cut : ℕ) (reply : MessageBytes) → 0 < width → AllWithin places reply → places / width < cut
    → IsCutSpoiled width reply cut → ⊥
past_spoiled width places cut reply some within past =
    none_spoiled width cut reply some (λ place at.
    let beyond = past_cut width cut place places some past at in
    mark_past reply.spoiled place (omega (arith, within.marks)))

pub same_past : (width places cut : ℕ) (given captured : MessageBytes) → 0 < width → AllWithin places given
    → AllWithin places captured → places / width < cut → IsSameCut width given captured cut
same_past width places cut given captured some all also past = record {
  spoiled = (
    λ spoiled. absurd (past_spoiled width places cut given some all past spoiled),
    λ spoiled. absurd (past_spoiled width places cut captured some also past spoiled),
  );
  bytes = λ clean place at.
      let beyond = past_cut width cut place places some past at in
      let left = slice_get_past captured.bytes place (omega (arith, also.bytes)) in
      let right = slice_get_past given.bytes place (omega (arith, all.bytes)) in cc;
}

-- ---- a cut, by what was found of it

module _ (width cut : ℕ) (given captured : MessageBytes) (here there same : Bool)
    (spoiled : IsTrue here ↔ IsCutSpoiled width given cut) (also : IsTrue there ↔ IsCutSpoiled width captured cut) where
  -- it is spoiled in the first message
  pub by_other : IsTrue here → IsTrue there ↔ IsSameCut width given captured cut
  by_other is = (
    λ yes. record {
      spoiled = (λ _. also.0 yes, λ _. spoiled.0 is);
      bytes = λ clean. absurd (clean (spoiled.0 is));
    },
    λ alike. also.1 (alike.spoiled.0 (spoiled.0 is)),
  )

  -- in the second alone
  pub not_alike : here ≡ false → IsTrue there → IsSameCut width given captured cut → ⊥
  not_alike isnt is alike = let found : IsTrue here = spoiled.1 (alike.spoiled.1 (also.0 is)) in cc

  -- in neither
  pub by_bytes : here ≡ false → there ≡ false → (IsTrue same ↔ AreSameInCut width cut given.bytes captured.bytes)
      → IsTrue same ↔ IsSameCut width given captured cut
  by_bytes isnt neither bytes = (
    λ yes. record {
      spoiled = (λ found. absurd (clean found), λ found. absurd (sound found));
      bytes = λ none. bytes.0 yes;
    },
    λ alike. bytes.1 (alike.bytes clean),
  )
    where
      clean : IsCutSpoiled width given cut → ⊥
      clean found = let is : IsTrue here = spoiled.1 found in cc

      sound : IsCutSpoiled width captured cut → ⊥
      sound found = let is : IsTrue there = also.1 found in cc

-- ---- messages with no mark set

pub same_lists : (a b : List (Option ℕ)) → ((place : ℕ) → slice_get b place ≡ slice_get a place) → a ≡ b
same_lists [] [] same = refl
same_lists [] (y ∷ b) same = let first = same 0 in absurd (cc)
same_lists (x ∷ a) [] same = let first = same 0 in absurd (cc)
same_lists (x ∷ a) (y ∷ b) same =
    let first = same 0 in
    let rest : a ≡ b = same_lists a b (λ place. same (suc place)) in cc

module _ (width : ℕ) (given captured : MessageBytes)
    (clean : (place : ℕ) → slice_index_or given.spoiled place false ≡ false)
    (unmarked : (place : ℕ) → slice_index_or captured.spoiled place false ≡ false) where
  no_cut : (reply : MessageBytes) → ((place : ℕ) → slice_index_or reply.spoiled place false ≡ false) → (cut : ℕ)
      → IsCutSpoiled width reply cut → ⊥
  no_cut reply none cut spoiled = let isnt = none spoiled.0 in let is = spoiled.2 in cc

  -- they are the same, cut by cut, if their bytes are
  pub parts_from_bytes : given.bytes ≡ captured.bytes → AreSameParts width given captured
  parts_from_bytes is = record {
    counted = ap length (sym is);
    each = λ cut. record {
      spoiled = (
        λ spoiled. absurd (no_cut given clean cut spoiled),
        λ spoiled. absurd (no_cut captured unmarked cut spoiled),
      );
      bytes = λ sound place at. ap (λ (bytes : List (Option ℕ)). slice_get bytes place) (sym is);
    };
  }

  pub bytes_from_parts : AreSameParts width given captured → given.bytes ≡ captured.bytes
  bytes_from_parts parts =
      same_lists given.bytes captured.bytes
      (λ place. (parts.each (place / width)).bytes (no_cut given clean (place / width)) place refl)
