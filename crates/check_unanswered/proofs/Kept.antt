-- What is kept of the requests in flight, as one row more is judged, and what it says of those that are left.
use Rattle.std.proofs.Common.{◌≡◌, ◌∙◌, ℕ, suc, ◌+◌, ◌<◌, ◌≤◌, ◌%◌, ◌^◌, Bool, true, false, ◌⊎◌, inl, inr, List, [], ◌∷◌, length, Contains, Option, Some, None, refl, sym, ap, subst, arith, eqb-true}
use Rattle.std.specs.Prelude.{◌==◌, ◌↔◌, option_map, slice_set}
use Rattle.std.proofs.lemmas.Bool.{eqb-false}
use Rattle.std.proofs.lemmas.List.{length-map, length-set}
use Rattle.tl_map.specs.Owner.{IsOwned, IsWideSource}
use Rattle.check_watch.specs.Plan.{LinkSide, side_of}
use Rattle.check_watch.specs.Plan.LinkSide.{AtMasters, AtPorts}
use Rattle.check_watch.specs.declared.pending.Change.TheVariants.{Nothing}
use Rattle.check_watch.specs.declared.pending.Origin.{Origin}
use Rattle.check_watch.specs.Pending.{IsBegin, IsEnd, OthersStay}
use Rattle.check_sides.specs.Pending.{IsChange, IsInFlightAt}
use Rattle.check_sides.specs.Plan.{Layout, Plan}
use Rattle.check_rows.specs.Row.{SeenRow, beats_of}
use Rattle.check_rows.specs.declared.request.Began.{Began}
use Rattle.check_rows.specs.declared.request.Left.{Left}
use Rattle.check_rows.specs.declared.request.Open.{Open}
use Rattle.check_unanswered.specs.Began.{IsCompleteOn, IsLeftOn, began, began_with}
use Rattle.check_unanswered.specs.Table.{IsEarliestOf, open_at, opens}
use Rattle.check_unanswered.specs.View.{Holds, IsOf, PendingView, open_table, with_open}
use Rattle.check_unanswered.proofs.Flights.{began_busy, began_none, began_now, began_some, began_stays}
use Rattle.check_unanswered.proofs.Tables.{at_opens, at_wides, cleared, cleared_at, length-wides, none_at, opens_at, rising_wides, set_here, set_none, set_other, wides_at, wides_from}

-- ---- sides

abbrev at_masters : LinkSide → Type 0
at_masters AtMasters = Unit {0}
at_masters AtPorts = ⊥

abbrev at_ports : LinkSide → Type 0
at_ports AtMasters = ⊥
at_ports AtPorts = Unit {0}

same_or_apart : (a b : LinkSide) → (a ≡ b) ⊎ (a ≡ b → ⊥)
same_or_apart AtMasters AtMasters = inl refl
same_or_apart AtMasters AtPorts = inr (λ is. subst at_masters is tt)
same_or_apart AtPorts AtMasters = inr (λ is. subst at_ports is tt)
same_or_apart AtPorts AtPorts = inl refl

table_here : (pending : PendingView) (side : LinkSide) (wide : ℕ) (ask : Option Open)
    → open_table (with_open pending side wide ask) side ≡ slice_set (open_table pending side) wide ask
table_here pending AtMasters wide ask = refl
table_here pending AtPorts wide ask = refl

table_apart : (pending : PendingView) (own side : LinkSide) (wide : ℕ) (ask : Option Open) → (own ≡ side → ⊥)
    → open_table (with_open pending own wide ask) side ≡ open_table pending side
table_apart pending AtMasters AtMasters wide ask apart = absurd (apart refl)
table_apart pending AtMasters AtPorts wide ask apart = refl
table_apart pending AtPorts AtMasters wide ask apart = refl
table_apart pending AtPorts AtPorts wide ask apart = absurd (apart refl)

table_long : (pending : PendingView) (own side : LinkSide) (wide : ℕ) (ask : Option Open)
    → length (open_table (with_open pending own wide ask) side) ≡ length (open_table pending side)
table_long pending own side wide ask = go (same_or_apart own side)
  where
    go : (own ≡ side) ⊎ (own ≡ side → ⊥)
        → length (open_table (with_open pending own wide ask) side) ≡ length (open_table pending side)
    go (inl is) = subst
        (λ s. length (open_table (with_open pending own wide ask) s) ≡ length (open_table pending s)) is
        (ap length (table_here pending own wide ask) ∙ length-set (open_table pending own) wide ask)
    go (inr apart) = ap length (table_apart pending own side wide ask apart)

-- a count beside the tables changes none of them
tables_counted : (pending : PendingView) (taken : ℕ) (side : LinkSide)
    → open_table (record pending { taken = taken }) side ≡ open_table pending side
tables_counted pending taken AtMasters = refl
tables_counted pending taken AtPorts = refl

tables_with : (pending : PendingView) (taken : ℕ) (own side : LinkSide) (wide : ℕ) (ask : Option Open)
    → open_table (with_open (record pending { taken = taken }) own wide ask) side
    ≡ open_table (with_open pending own wide ask) side
tables_with pending taken AtMasters AtMasters wide ask = refl
tables_with pending taken AtMasters AtPorts wide ask = refl
tables_with pending taken AtPorts AtMasters wide ask = refl
tables_with pending taken AtPorts AtPorts wide ask = refl

taken_with : (pending : PendingView) (taken : ℕ) (own : LinkSide) (wide : ℕ) (ask : Option Open)
    → (with_open (record pending { taken = taken }) own wide ask).taken ≡ taken
taken_with pending taken AtMasters wide ask = refl
taken_with pending taken AtPorts wide ask = refl

-- ---- options

none_or_some : {X : Type 0} (x : X) → None ≡ Some x → ⊥
none_or_some x is = absurd (cc)

some_same : (a b : Open) → Some a ≡ Some b → a ≡ b
some_same a b is = cc

began_same : (a b : Began) → Some a ≡ Some b → a ≡ b
began_same a b is = cc

-- ---- at one place

-- what is kept of a wide source holds
record AtPlace (plan : Plan) (rows : List SeenRow) (table : List (Option Open)) (side : LinkSide) (wide : ℕ) : Type 0 where
  began : option_map (λ (ask : Open). ask.began) (open_at table wide) ≡ began plan rows side wide
  own : (ask : Open) → open_at table wide ≡ Some ask → IsOf plan wide ask

counted_more : (n taken : ℕ) → taken ≡ n % 2 ^ 64 → (taken + 1) % 2 ^ 64 ≡ suc n % 2 ^ 64
counted_more n taken is = omega (arith, is)

module _ (plan : Plan) (rows : List SeenRow) (row : SeenRow) (old : PendingView) (holds : Holds plan rows old) where
  same_place : (table : List (Option Open)) (side : LinkSide) (wide : ℕ)
      → open_at table wide ≡ open_at (open_table old side) wide
      → (IsInFlightAt plan (beats_of (row ∷ rows)) side wide ↔ IsInFlightAt plan (beats_of rows) side wide)
      → AtPlace plan (row ∷ rows) table side wide
  same_place table side wide same stays = record {
    began = ap (λ o. option_map (λ (ask : Open). ask.began) o) same ∙ holds.began side wide
        ∙ sym (began_stays plan row rows side wide stays);
    own = λ ask is. holds.own side wide ask (sym same ∙ is);
  }

  abbrev before : LinkSide → ℕ → Type 0
  before = IsInFlightAt plan (beats_of rows)

  abbrev after : LinkSide → ℕ → Type 0
  after = IsInFlightAt plan (beats_of (row ∷ rows))

  abbrev own_side : LinkSide
  own_side = side_of row.sighting.link

  -- one place is set, and all others stay
  set_place : (wide : ℕ) (ask : Option Open)
      → AtPlace plan (row ∷ rows) (open_table (with_open old own_side wide ask) own_side) own_side wide
      → OthersStay before after row.sighting wide
      → (side : LinkSide) (other : ℕ)
      → AtPlace plan (row ∷ rows) (open_table (with_open old own_side wide ask) side) side other
  set_place wide ask here others side other = by_side (same_or_apart own_side side)
    where
      elsewhere : (own_side ≡ side) → (wide ≡ other → ⊥)
          → AtPlace plan (row ∷ rows) (open_table (with_open old own_side wide ask) side) side other
      elsewhere is apart =
          same_place (open_table (with_open old own_side wide ask) side) side other
          (subst (λ s. open_at (open_table (with_open old own_side wide ask) s) other ≡ open_at (open_table old s) other) is
          (ap (λ t. open_at t other) (table_here old own_side wide ask)
          ∙ set_other (open_table old own_side) wide other ask apart))
          (others side other (λ both. apart both.1))

      by_wide : (own_side ≡ side) → (same : Bool) → (wide == other) ≡ same
          → AtPlace plan (row ∷ rows) (open_table (with_open old own_side wide ask) side) side other
      by_wide is true same =
          subst (λ s. AtPlace plan (row ∷ rows) (open_table (with_open old own_side wide ask) s) s other) is
          (subst (λ w. AtPlace plan (row ∷ rows) (open_table (with_open old own_side wide ask) own_side) own_side w)
          (eqb-true wide other same) here)
      by_wide is false apart = elsewhere is (eqb-false wide other apart)

      by_side : (own_side ≡ side) ⊎ (own_side ≡ side → ⊥)
          → AtPlace plan (row ∷ rows) (open_table (with_open old own_side wide ask) side) side other
      by_side (inl is) = by_wide is (wide == other) refl
      by_side (inr apart) =
          same_place (open_table (with_open old own_side wide ask) side) side other
          (ap (λ t. open_at t other) (table_apart old own_side side wide ask apart))
          (others side other (λ both. apart both.0))

  -- what is kept is so at each place, and the row is counted
  counted : (middle new : PendingView) → ((side : LinkSide) → open_table new side ≡ open_table middle side)
      → new.taken ≡ (old.taken + 1) % 2 ^ 64
      → ((side : LinkSide) → length (open_table middle side) ≡ length (open_table old side))
      → ((side : LinkSide) (wide : ℕ) → AtPlace plan (row ∷ rows) (open_table middle side) side wide)
      → Holds plan (row ∷ rows) new
  counted middle new same taken long at =
      let places : (side : LinkSide) (wide : ℕ) → AtPlace plan (row ∷ rows) (open_table new side) side wide =
      λ side wide. subst (λ t. AtPlace plan (row ∷ rows) t side wide) (sym (same side)) (at side wide) in
      record {
        room = λ side wide owned.
            let within = holds.room side wide owned in
            let long_as = ap length (same side) ∙ long side in
            omega (arith, within, long_as);
        began = λ side wide. (places side wide).began;
        own = λ side wide. (places side wide).own;
        taken = taken ∙ counted_more (length rows) old.taken holds.taken;
      }

  abbrev next : ℕ
  next = (old.taken + 1) % 2 ^ 64

  pub holds_nothing : IsChange plan (beats_of rows) row.sighting Nothing
      → Holds plan (row ∷ rows) (record old { taken = next })
  holds_nothing change =
      counted old (record old { taken = next }) (tables_counted old next) refl (λ side. refl)
      (λ side wide. same_place (open_table old side) side wide refl (change side wide))

  -- one wide source's place is set, and the row is counted
  set_counted : (wide : ℕ) (ask : Option Open)
      → AtPlace plan (row ∷ rows) (open_table (with_open old own_side wide ask) own_side) own_side wide
      → OthersStay before after row.sighting wide
      → Holds plan (row ∷ rows) (with_open (record old { taken = next }) own_side wide ask)
  set_counted wide ask here others =
      counted (with_open old own_side wide ask) (with_open (record old { taken = next }) own_side wide ask)
      (λ side. tables_with old next own_side side wide ask) (taken_with old next own_side wide ask)
      (λ side. table_long old own_side side wide ask) (set_place wide ask here others)

  pub holds_begins : (origin : Origin) → IsBegin before after plan.layout.owners row.sighting origin
      → (ask : Open) → ask ≡ record { began = began_with row old.taken; origin = origin }
      → Holds plan (row ∷ rows) (with_open (record old { taken = next }) own_side origin.wide (Some ask))
  holds_begins origin begins ask is =
      let of : ask.origin ≡ origin = ap (λ (a : Open). a.origin) is in
      let owned : IsOwned plan.layout.owners origin.wide = (origin.master, (origin.source, begins.own)) in
      let at : open_at (open_table (with_open old own_side origin.wide (Some ask)) own_side) origin.wide ≡ Some ask =
      ap (λ t. open_at t origin.wide) (table_here old own_side origin.wide (Some ask))
      ∙ set_here (open_table old own_side) origin.wide (Some ask) (holds.room own_side origin.wide owned) in
      let began_is : ask.began ≡ began_with row (length rows % 2 ^ 64) =
      ap (λ (a : Open). a.began) is ∙ ap (λ n. began_with row n) holds.taken in
      set_counted origin.wide (Some ask) (record {
        began = ap (λ o. option_map (λ (k : Open). k.began) o) at ∙ ap (λ b. Some b) began_is
            ∙ sym (began_now plan row rows own_side origin.wide begins.begun begins.free);
        own = λ other is_other.
            let same : ask ≡ other = some_same ask other (sym at ∙ is_other) in
            subst (λ o. IsOf plan origin.wide o) same (record {
              here = ap (λ (o : Origin). o.wide) of;
              own = subst (λ (o : Origin). IsWideSource plan.layout.owners o.master o.source o.wide) (sym of) begins.own;
            });
      }) begins.others

  pub holds_ends : (EndsOne : Type 0) (wide : ℕ) → IsEnd before after EndsOne row.sighting wide
      → Holds plan (row ∷ rows) (with_open (record old { taken = next }) own_side wide None)
  holds_ends EndsOne wide ends =
      let at : open_at (open_table (with_open old own_side wide None) own_side) wide ≡ None =
      ap (λ t. open_at t wide) (table_here old own_side wide None) ∙ set_none (open_table old own_side) wide in
      set_counted wide None (record {
        began = ap (λ o. option_map (λ (k : Open). k.began) o) at
            ∙ sym (began_none plan row rows own_side wide ends.ended);
        own = λ other is. absurd (none_or_some other (sym at ∙ is));
      }) ends.others

-- ---- before any row, after a reset, and what is left

pub holds_fresh : (plan : Plan) (pending : PendingView) → pending.taken ≡ 0
    → ((side : LinkSide) (wide : ℕ) → IsOwned plan.layout.owners wide → wide < length (open_table pending side))
    → ((side : LinkSide) (wide : ℕ) → open_at (open_table pending side) wide ≡ None) → Holds plan [] pending
holds_fresh plan pending none room fresh = record {
  room = room;
  began = λ side wide. ap (λ o. option_map (λ (k : Open). k.began) o) (fresh side wide);
  own = λ side wide ask is. absurd (none_or_some ask (sym (fresh side wide) ∙ is));
  taken = none;
}

-- nothing is in flight any more, and no row was judged
abbrev pub emptied : PendingView → PendingView
emptied pending = record { masters = cleared pending.masters; ports = cleared pending.ports; taken = 0 }

table_emptied : (pending : PendingView) (side : LinkSide)
    → open_table (emptied pending) side ≡ cleared (open_table pending side)
table_emptied pending AtMasters = refl
table_emptied pending AtPorts = refl

-- and there is room for as many wide sources as before
pub holds_reset : (plan later : Plan) (rows : List SeenRow) (old new : PendingView) → later.layout ≡ plan.layout
    → Holds plan rows old → new ≡ emptied old → Holds later [] new
holds_reset plan later rows old new layout holds made =
    subst (λ p. Holds later [] p) (sym made) (holds_fresh later (emptied old) refl
    (λ side wide owned.
    let within = holds.room side wide (subst (λ (l : Layout). IsOwned l.owners wide) layout owned) in
    let long = ap length (table_emptied old side) ∙ length-map (open_table old side) (λ (_ : Option Open). None) in
    omega (arith, within, long))
    (λ side wide. ap (λ t. open_at t wide) (table_emptied old side) ∙ cleared_at (open_table old side) wide))

some_open : (table : List (Option Open)) (wide : ℕ) (b : Began)
    → option_map (λ (k : Open). k.began) (open_at table wide) ≡ Some b
    → (ask : Open) × (open_at table wide ≡ Some ask) × (ask.began ≡ b)
some_open table wide b is = go (open_at table wide) refl
  where
    go : (o : Option Open) → open_at table wide ≡ o
        → (ask : Open) × (open_at table wide ≡ Some ask) × (ask.began ≡ b)
    go None none = let h = sym (ap (λ o. option_map (λ (k : Open). k.began) o) none) ∙ is in absurd (cc)
    go (Some ask) some =
        let h : Some ask.began ≡ Some b = sym (ap (λ o. option_map (λ (k : Open). k.began) o) some) ∙ is in
        (ask, some, began_same ask.began b h)

module _ (plan : Plan) (rows : List SeenRow) (pending : PendingView) (holds : Holds plan rows pending) (side : LinkSide) where
  abbrev table : List (Option Open)
  table = open_table pending side

  pub complete_side : opens table ≡ [] → IsCompleteOn plan rows side
  complete_side none wide busy =
      let b = began_some plan rows side wide busy in
      let ask = some_open table wide b.0 (holds.began side wide ∙ b.1) in
      none_or_some ask.0 (sym (none_at table wide none) ∙ ask.1)

  pub left_side : (left : Left) → IsEarliestOf table left → IsLeftOn plan rows side left
  left_side left first =
      let at = at_opens table left.first first.oldest.0 in
      let of = holds.own side at.0 left.first at.1 in
      record {
        wides = wides_from 0 table;
        rising = rising_wides 0 table;
        are = λ wide. (
          λ inside.
              let found = at_wides 0 table wide inside in
              let far = found.far in
              let is : wide ≡ found.k = omega (arith, far) in
              subst (λ w. IsInFlightAt plan (beats_of rows) side w) (sym is)
              (began_busy plan rows side found.k found.ask.began
              (sym (holds.began side found.k) ∙ ap (λ o. option_map (λ (k : Open). k.began) o) found.is)),
          λ busy.
              let b = began_some plan rows side wide busy in
              let ask = some_open table wide b.0 (holds.began side wide ∙ b.1) in
              let from : 0 + wide ≡ wide = omega arith in
              subst (λ w. Contains (wides_from 0 table) w) from (wides_at 0 table wide ask.0 ask.1),
        );
        count = first.count ∙ sym (length-wides 0 table);
        own = of.own;
        is = subst (λ w. began plan rows side w ≡ Some left.first.began) (sym of.here)
            (sym (holds.began side at.0) ∙ ap (λ o. option_map (λ (k : Open). k.began) o) at.1);
        oldest = λ wide other is.
            let ask = some_open table wide other (holds.began side wide ∙ is) in
            let le = first.oldest.1 ask.0 (opens_at table wide ask.0 ask.1) in
            subst (λ (b : Began). left.first.began.place ≤ b.place) ask.2 le;
      }
