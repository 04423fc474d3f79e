-- What holds after each beat holds after each moment of a port, since a beat makes one at most.
use Rattle.std.proofs.Common.{◌≡◌, ◌⊎◌, inl, inr, ⊎_elim, ℕ, suc, ◌≤◌, ◌-◌, Bool, true, false, cond, if◌then◌else◌, List, [], ◌∷◌, ◌++◌, length, map, filter, take, drop, refl, ap, sym, subst, arith}
use Rattle.std.specs.Prelude.{slice_range}
use Rattle.check_watch.specs.declared.beat.Beat.{Beat}
use Rattle.check_watch.specs.declared.beat.Beat.TheVariants.{A, D}
use Rattle.check_beats.specs.State.{ask_of, ends_ask}
use Rattle.check_watch.specs.Plan.{Plan, Sighting, bus_of, side_of, wide_of}
use Rattle.check_watch.specs.Scene.{begins_reply}
use Rattle.check_watch_laws.specs.Crossed.{AskSeen, ask_ended, asking_at, asks, next_answered, replies, replying_at}
use Rattle.check_watch_laws.specs.Memories.{ask_answered, is_for}
use Rattle.check_watch_laws.specs.Moments.{RequestMoment, moment_of, moments, moments_with}
use Rattle.check_watch_laws.specs.Moments.Act.{Accepts, Answers}

-- ---- lists

take_one : {X : Type 0} (xs : List X) → length (take 1 xs) ≤ 1
take_one [] = omega arith
take_one (x ∷ xs) = omega arith

range_one : {X : Type 0} (xs : List X) (n : ℕ) → length (slice_range xs n (suc n)) ≤ 1
range_one {X} xs n =
    let one : suc n - n ≡ 1 = omega arith in
    subst (λ k. length (take k (drop n xs)) ≤ 1) (sym one) (take_one (drop n xs))

-- as many as before, or fewer
picked : (is_one : AskSeen → Bool) (made : AskSeen → RequestMoment) (seen : List AskSeen) → length seen ≤ 1
    → length (map made (filter is_one seen)) ≤ 1
picked is_one made [] few = omega arith
picked is_one made (x ∷ []) few = go (is_one x)
  where
    go : (b : Bool) → length (map made (cond b (x ∷ []) [])) ≤ 1
    go true = omega arith
    go false = omega arith
picked is_one made (x ∷ y ∷ seen) few = absurd (omega (arith, few))

one_moment : (plan : Plan) (port : ℕ) (past : List Sighting) (x : Sighting) (beat : Beat)
    → length (moments_with plan port past x beat) ≤ 1
one_moment plan port past x (A beat) =
    picked (is_for plan port) (moment_of Accepts (wide_of plan x.link beat.source)) (ask_ended plan.layout past x (A beat))
    (go (ends_ask (bus_of plan.layout x.link) (asking_at plan.layout x.link past) beat))
  where
    go : (b : Bool) → length {A = AskSeen} (if b then record {
      link = x.link;
      sent = ask_of (bus_of plan.layout x.link) (asking_at plan.layout x.link past) beat
          (take (bus_of plan.layout x.link) x.lanes);
    } ∷ [] else []) ≤ 1
    go true = omega arith
    go false = omega arith
one_moment plan port past x (D beat) =
    picked (is_for plan port) (moment_of Answers (wide_of plan x.link beat.source)) (ask_answered plan past x (D beat))
    (go (begins_reply (replying_at plan.layout x.link past)))
  where
    own : ℕ
    own = wide_of plan x.link beat.source

    go : (b : Bool) → length (if b then next_answered plan (side_of x.link) own past else []) ≤ 1
    go true =
        range_one (asks plan (side_of x.link) own past) (length (replies plan (side_of x.link) own past))
    go false = omega arith

-- the front of a list to which one at most was appended is all of it, or a front of what it was
front : {X : Type 0} (xs ys ms ws : List X) → xs ++ ys ≡ ms ++ ws → length ws ≤ 1
    → (xs ≡ ms ++ ws) ⊎ ((zs : List X) × (xs ++ zs ≡ ms))
front {X} [] ys ms ws same few = inr (ms, refl)
front {X} (x ∷ xs) ys [] [] same few = absurd (cc)
front {X} (x ∷ xs) ys [] (w ∷ v ∷ ws) same few = absurd (omega (arith, few))
front {X} (x ∷ []) ys [] (w ∷ []) same few = let first : x ≡ w = cc in inl (ap (λ a. a ∷ []) first)
front {X} (x ∷ y ∷ xs) ys [] (w ∷ []) same few =
    let long : length (x ∷ y ∷ xs ++ ys) ≡ length (w ∷ []) = ap (λ l. length l) same in absurd (omega (arith, long))
front {X} (x ∷ xs) ys (m ∷ ms) ws same few =
    let first : x ≡ m = cc in
    let rest : xs ++ ys ≡ ms ++ ws = cc in
    ⊎_elim
    (λ (is : xs ≡ ms ++ ws). inl (λ i. first i ∷ is i))
    (λ (found : (zs : List X) × (xs ++ zs ≡ ms)). inr (found.0, (λ i. first i ∷ found.1 i)))
    (front xs ys ms ws rest few)

-- ---- moments

-- of each front of these moments
abbrev pub OfFronts : (List RequestMoment → Type 0) → List RequestMoment → Type 0
OfFronts P all = (before later : List RequestMoment) → before ++ later ≡ all → P before

pub fronts_none : (P : List RequestMoment → Type 0) → P [] → OfFronts P []
fronts_none P holds [] later is = holds
fronts_none P holds (moment ∷ before) later is = absurd (cc)

pub fronts_more : (plan : Plan) (port : ℕ) (past : List Sighting) (x : Sighting) (P : List RequestMoment → Type 0)
    → OfFronts P (moments plan port past) → P (moments plan port (x ∷ past)) → OfFronts P (moments plan port (x ∷ past))
fronts_more plan port past x P earlier now before later is =
    ⊎_elim
    (λ (all : before ≡ moments plan port past ++ moments_with plan port past x x.beat). subst P (sym all) now)
    (λ (some : (rest : List RequestMoment) × (before ++ rest ≡ moments plan port past)). earlier before some.0 some.1)
    (front before later (moments plan port past) (moments_with plan port past x x.beat) is
    (one_moment plan port past x x.beat))
