-- What a map keeps of each source, after a write at one.
use Rattle.std.proofs.Common.{◌≡◌, ◌∙◌, ℕ, Bool, true, false, if◌then◌else◌, List, [], ◌∷◌, Option, Some, None, refl, ap, sym, subst, arith}
use Rattle.std.specs.Prelude.{◌==◌, cond, nat_lt, option_map}
use Rattle.std.specs.BTreeMap.{BTreeMap, UpdatesBy, get, insert_entry, is_at}
use Rattle.std.specs.Map.{remove_entry, set_value}
use Rattle.std.specs.declared.cmp.Ordering.{Ordering}
use Rattle.std.specs.declared.cmp.Ordering.TheVariants.{Less, Equal, Greater}
use Rattle.std.specs.Ordering.{is_eq, match_ordering, nat_cmp}
use Rattle.std.proofs.lemmas.Bool.Decides.{nat_tests}
use Rattle.check_flight.specs.Flight.{Flight}
use Rattle.check_sides.specs.Flights.{IsChanged, IsFlightKept, IsPut, flight_kept}

pub same_key : (x y : ℕ) → is_eq (nat_cmp x y) ≡ (x == y)
same_key x y = go (nat_lt x y) refl (x == y) refl
  where
    go : (less : Bool) → nat_lt x y ≡ less → (same : Bool) → (x == y) ≡ same → is_eq (nat_cmp x y) ≡ (x == y)
    go true is true also = absurd (grind (arith, nat_tests))
    go true is false also = rw (is, also) refl
    go false is true also = rw (is, also) refl
    go false is false also = rw (is, also) refl

chosen : (b c : Bool) (now before : Option Flight) → b ≡ c → cond b now before ≡ (if c then now else before)
chosen true true now before is = refl
chosen true false now before is = cc
chosen false true now before is = cc
chosen false false now before is = refl

-- a map that has this at a source from then on
pub kept_through : (m n : BTreeMap ℕ Flight) (before : List (ℕ × Flight)) (source : ℕ) (now : Option Flight)
    → m.entries ≡ before → UpdatesBy nat_cmp (nat_cmp source) m n now → IsFlightKept before n.entries source now
kept_through m n before source now is updates =
    subst (λ (b : List (ℕ × Flight)). IsFlightKept b n.entries source now) is
    (λ q. updates.0 q ∙ chosen (is_eq (nat_cmp source q)) (source == q) now (get nat_cmp m q) (same_key source q))

-- the same of a flight that is equal to another
pub put_through : (m n : BTreeMap ℕ Flight) (before : List (ℕ × Flight)) (source : ℕ) (flight other : Flight)
    → m.entries ≡ before → flight ≡ other
    → UpdatesBy nat_cmp (nat_cmp source) m n (Some flight) → IsPut before n.entries source other
put_through m n before source flight other is same updates =
    subst (λ (f : Flight). IsPut before n.entries source f) same
    (kept_through m n before source (Some flight) is updates)

-- the latter of two writes at a source stands
pub kept_twice : (before between after : List (ℕ × Flight)) (source : ℕ) (first last : Option Flight)
    → IsFlightKept before between source first → IsFlightKept between after source last → IsFlightKept before after source last
kept_twice before between after source first last once again other =
    again other ∙ go (source == other) refl
  where
    go : (same : Bool) → (source == other) ≡ same
        → (if same then last else flight_kept between other) ≡ (if same then last else flight_kept before other)
    go true is = refl
    go false is = once other ∙ ap (λ (b : Bool). if b then first else flight_kept before other) is

pub changed_some : (before after : List (ℕ × Flight)) (source : ℕ) (f : Flight → Flight) (was now : Flight)
    → flight_kept before source ≡ Some was → now ≡ f was → IsPut before after source now
    → IsChanged before after source f
changed_some before after source f was now is made put =
    subst (λ (o : Option Flight). IsFlightKept before after source o)
    (ap (λ (x : Flight). Some x) made ∙ sym (ap (λ (o : Option Flight). option_map f o) is)) put

-- ---- room that is taken back

own_key : (source : ℕ) → is_eq (nat_cmp source source) ≡ true
own_key source = grind (arith, nat_tests, same_key source source)

-- the room that was made of a source, whatever was written there, is taken back
pub taken_back : (es : List (ℕ × Flight)) (source : ℕ) (first last : Flight) → flight_kept es source ≡ None
    → remove_entry (is_at (nat_cmp source)) (set_value (is_at (nat_cmp source))
    (insert_entry nat_cmp es source first) last)
    ≡ es
taken_back [] source first last none = let own = own_key source in rw (own, own) refl
taken_back (e ∷ es) source first last none =
    go (nat_cmp source e.0) refl none (taken_back es source first last)
  where
    go : (o : Ordering) → nat_cmp source e.0 ≡ o
        → cond (is_eq o) (Some e.1) (flight_kept es source) ≡ None
        → (flight_kept es source ≡ None
        → remove_entry (is_at (nat_cmp source)) (set_value (is_at (nat_cmp source))
        (insert_entry nat_cmp es source first) last) ≡ es)
        → remove_entry (is_at (nat_cmp source)) (set_value (is_at (nat_cmp source))
        (match_ordering o ((source, first) ∷ e ∷ es) ((e.0, first) ∷ es) (e ∷ insert_entry nat_cmp es source first)) last)
        ≡ e ∷ es
    go Less is none rest = let own = own_key source in rw (own, own) refl
    go Equal is none rest = absurd (cc)
    go Greater is none rest = rw (is, is) (ap (λ (l : List (ℕ × Flight)). e ∷ l) (rest none))

-- what stands, written where it stands, changes nothing
set_own : (es : List (ℕ × Flight)) (source : ℕ) (flight : Flight) → flight_kept es source ≡ Some flight
    → set_value (is_at (nat_cmp source)) es flight ≡ es
set_own [] source flight is = refl
set_own (e ∷ es) source flight is = go (is_eq (nat_cmp source e.0)) is (set_own es source flight)
  where
    go : (same : Bool) → cond same (Some e.1) (flight_kept es source) ≡ Some flight
        → (flight_kept es source ≡ Some flight → set_value (is_at (nat_cmp source)) es flight ≡ es)
        → cond same ((e.0, flight) ∷ es) (e ∷ set_value (is_at (nat_cmp source)) es flight) ≡ e ∷ es
    go true is rest =
        let own : flight ≡ e.1 = cc in
        let pair : Flight → List (ℕ × Flight) = λ f. (e.0, f) ∷ es in
        ap pair own
    go false is rest = ap (λ (l : List (ℕ × Flight)). e ∷ l) (rest is)

pub written_same : (m n : BTreeMap ℕ Flight) (before : List (ℕ × Flight)) (source : ℕ) (was now : Flight)
    → m.entries ≡ before → get nat_cmp m source ≡ Some was → now ≡ was
    → n.entries ≡ set_value (is_at (nat_cmp source)) m.entries now → n.entries ≡ before
written_same m n before source was now is found same written =
    written ∙ ap (λ (f : Flight). set_value (is_at (nat_cmp source)) m.entries f) same
    ∙ set_own m.entries source was found ∙ is
