-- Which requests wait after one row more, and which of them have waited for more than the limit.
use Rattle.std.proofs.Common.{◌≡◌, ◌∙◌, ℕ, Bool, true, false, cond, not, ◌&&◌, ◌||◌, List, [], ◌∷◌, ◌++◌, Some, None, refl, ap, subst, arith}
use Rattle.std.specs.Prelude.{filter, find}
use Rattle.std.specs.List.{list_any}
use Rattle.std.proofs.lemmas.Bool.Decides.{nat_tests}
use Rattle.check_watch.specs.declared.beat.Beat.{Beat}
use Rattle.check_watch.specs.declared.beat.Beat.TheVariants.{A, D}
use Rattle.check_sides.specs.Plan.{Plan}
use Rattle.check_rows.specs.Row.{SeenRow}
use Rattle.check_coverage.specs.Flights.{is_counted, wide_at}
use Rattle.check_review.specs.declared.waiting.Waiting.{Waiting}
use Rattle.check_review.specs.Waiting.{answers_late, first_late, is_late, is_late_reply, is_waiting_of, waiting_after, waiting_from, waiting_in}

-- ---- the first that passes a test

module _ {X : Type 0} (test : X → Bool) where
  -- in a list with more behind it
  none_append : (xs ys : List X) → find test xs ≡ None → find test ys ≡ None → find test (xs ++ ys) ≡ None
  none_append [] ys is other = other
  none_append (x ∷ xs) ys is other = go (test x) is (λ rest. none_append xs ys rest other)
    where
      go : (b : Bool) → cond b (Some x) (find test xs) ≡ None
          → (find test xs ≡ None → find test (xs ++ ys) ≡ None)
          → cond b (Some x) (find test (xs ++ ys)) ≡ None
      go true is rest = absurd (cc)
      go false is rest = rest is

  some_append : (xs ys : List X) (y : X) → find test xs ≡ Some y → find test (xs ++ ys) ≡ Some y
  some_append [] ys y is = absurd (cc)
  some_append (x ∷ xs) ys y is = go (test x) is (λ rest. some_append xs ys y rest)
    where
      go : (b : Bool) → cond b (Some x) (find test xs) ≡ Some y
          → (find test xs ≡ Some y → find test (xs ++ ys) ≡ Some y)
          → cond b (Some x) (find test (xs ++ ys)) ≡ Some y
      go true is rest = is
      go false is rest = rest is

  -- among those that are kept
  none_filter : (keeps : X → Bool) (xs : List X) → find test xs ≡ None → find test (filter keeps xs) ≡ None
  none_filter keeps [] is = is
  none_filter keeps (x ∷ xs) is = go (keeps x) (test x) refl is (λ rest. none_filter keeps xs rest)
    where
      go : (k b : Bool) → test x ≡ b → cond b (Some x) (find test xs) ≡ None
          → (find test xs ≡ None → find test (filter keeps xs) ≡ None)
          → find test (cond k (x ∷ filter keeps xs) (filter keeps xs)) ≡ None
      go k true at is rest = absurd (cc)
      go true false at is rest = ap (λ b. cond b (Some x) (find test (filter keeps xs))) at ∙ rest is
      go false false at is rest = rest is

  some_filter : (drops : X → Bool) (xs : List X) (y : X) → find test xs ≡ Some y
      → list_any (λ x. drops x && test x) xs ≡ false → find test (filter (λ x. not (drops x)) xs) ≡ Some y
  some_filter drops [] y is none = absurd (cc)
  some_filter drops (x ∷ xs) y is none =
      go (drops x) (test x) (list_any (λ z. drops z && test z) xs) refl refl is none
      (λ rest left. some_filter drops xs y rest left)
    where
      kept : List X
      kept = filter (λ z. not (drops z)) xs

      go : (o b l : Bool) → test x ≡ b → list_any (λ z. drops z && test z) xs ≡ l
          → cond b (Some x) (find test xs) ≡ Some y → ((o && b) || l) ≡ false
          → (find test xs ≡ Some y → list_any (λ z. drops z && test z) xs ≡ false → find test kept ≡ Some y)
          → find test (cond (not o) (x ∷ kept) kept) ≡ Some y
      go true true l at left is none rest = absurd (cc)
      go true false l at left is none rest = rest is (left ∙ none)
      go false true l at left is none rest = ap (λ b. cond b (Some x) (find test kept)) at ∙ is
      go false false l at left is none rest = ap (λ b. cond b (Some x) (find test kept)) at ∙ rest is (left ∙ none)

  -- if one passes it that passes another test too, there is a first
  some_passes : (other : X → Bool) (xs : List X) → list_any (λ x. other x && test x) xs ≡ true → find test xs ≡ None → ⊥
  some_passes other [] is none = absurd (cc)
  some_passes other (x ∷ xs) is none =
      go (other x) (test x) is none (λ rest left. some_passes other xs rest left)
    where
      go : (o b : Bool) → ((o && b) || list_any (λ z. other z && test z) xs) ≡ true
          → cond b (Some x) (find test xs) ≡ None
          → (list_any (λ z. other z && test z) xs ≡ true → find test xs ≡ None → ⊥) → ⊥
      go o true is none rest = cc
      go true false is none rest = rest is none
      go false false is none rest = rest is none

-- ---- a row of this time more

module _ (limit time : ℕ) where
  -- the request that begins with it has not waited
  fresh : (wide : ℕ) (row : SeenRow) → row.time ≡ time → is_late limit time (waiting_from wide row) ≡ false
  fresh wide row now = let at = now in grind (arith, nat_tests)

  none_fresh : (wide : ℕ) (row : SeenRow) → row.time ≡ time
      → find (is_late limit time) (waiting_from wide row ∷ []) ≡ None
  none_fresh wide row now = ap (λ b. cond b (Some (waiting_from wide row)) None) (fresh wide row now)

  none_after : (wide : ℕ) (row : SeenRow) (beat : Beat) (requests : List Waiting) → row.time ≡ time
      → first_late limit time requests ≡ None → first_late limit time (waiting_after wide row beat requests) ≡ None
  none_after wide row (A beat) requests now none = go (list_any (is_waiting_of wide) requests)
    where
      go : (b : Bool) → find (is_late limit time) (cond b requests (requests ++ waiting_from wide row ∷ [])) ≡ None
      go true = none
      go false = none_append (is_late limit time) requests (waiting_from wide row ∷ []) none (none_fresh wide row now)
  none_after wide row (D beat) requests now none =
      none_filter (is_late limit time) (λ waiting. not (is_waiting_of wide waiting)) requests none

  some_after : (wide : ℕ) (row : SeenRow) (beat : Beat) (requests : List Waiting) (first : Waiting)
      → first_late limit time requests ≡ Some first → answers_late limit time wide beat requests ≡ false
      → first_late limit time (waiting_after wide row beat requests) ≡ Some first
  some_after wide row (A beat) requests first some other = go (list_any (is_waiting_of wide) requests)
    where
      go : (b : Bool)
          → find (is_late limit time) (cond b requests (requests ++ waiting_from wide row ∷ [])) ≡ Some first
      go true = some
      go false = some_append (is_late limit time) requests (waiting_from wide row ∷ []) first some
  some_after wide row (D beat) requests first some other =
      some_filter (is_late limit time) (is_waiting_of wide) requests first some other

  -- no request is late after it if none was before it
  pub none_row : (plan : Plan) (row : SeenRow) (before : List SeenRow) → row.time ≡ time
      → first_late limit time (waiting_in plan before) ≡ None
      → first_late limit time (waiting_in plan (row ∷ before)) ≡ None
  none_row plan row before now none = go (is_counted plan.layout.links row.sighting.link)
    where
      go : (b : Bool) → find (is_late limit time) (cond b
          (waiting_after (wide_at plan row.sighting) row row.sighting.beat (waiting_in plan before)) (waiting_in plan before))
          ≡ None
      go true = none_after (wide_at plan row.sighting) row row.sighting.beat (waiting_in plan before) now none
      go false = none

  -- the first that was late before it still is, if the row does not begin a late reply
  pub some_row : (plan : Plan) (row : SeenRow) (before : List SeenRow) (first : Waiting) → row.time ≡ time
      → first_late limit time (waiting_in plan before) ≡ Some first → is_late_reply limit plan before row ≡ false
      → first_late limit time (waiting_in plan (row ∷ before)) ≡ Some first
  some_row plan row before first now some other =
      go (is_counted plan.layout.links row.sighting.link)
      (subst (λ t. (is_counted plan.layout.links row.sighting.link && answers_late limit t (wide_at plan row.sighting)
      row.sighting.beat (waiting_in plan before)) ≡ false) now other)
    where
      go : (b : Bool) → (b && answers_late limit time (wide_at plan row.sighting) row.sighting.beat (waiting_in plan before))
          ≡ false
          → find (is_late limit time) (cond b
          (waiting_after (wide_at plan row.sighting) row row.sighting.beat (waiting_in plan before)) (waiting_in plan before))
          ≡ Some first
      go true other =
          some_after (wide_at plan row.sighting) row row.sighting.beat (waiting_in plan before) first some other
      go false other = some

-- a row that begins a late reply has a request before it that is late
answered : (limit time wide : ℕ) (beat : Beat) (requests : List Waiting)
    → answers_late limit time wide beat requests ≡ true → first_late limit time requests ≡ None → ⊥
answered limit time wide (A beat) requests is none = cc
answered limit time wide (D beat) requests is none =
    some_passes (is_late limit time) (is_waiting_of wide) requests is none

pub late_waits : (limit : ℕ) (plan : Plan) (row : SeenRow) (before : List SeenRow)
    → is_late_reply limit plan before row ≡ true → first_late limit row.time (waiting_in plan before) ≡ None → ⊥
late_waits limit plan row before is none = go (is_counted plan.layout.links row.sighting.link) is
  where
    go : (b : Bool) → (b && answers_late limit row.time (wide_at plan row.sighting) row.sighting.beat (waiting_in plan before))
        ≡ true → ⊥
    go true is = answered limit row.time (wide_at plan row.sighting) row.sighting.beat (waiting_in plan before) is none
    go false is = cc
