-- Requests at a port's link that a reset cuts short, as they are looked at one after the other.
use Rattle.std.proofs.Common.{◌≡◌, ◌∙◌, ◌⊎◌, inl, inr, ⊎_elim, ℕ, zero, suc, List, [], ◌∷◌, ◌++◌, map, slice_get, Option, Some, None, refl, sym, ap, subst}
use Rattle.std.specs.Prelude.{option_map, unwrap_or}
use Rattle.std.specs.Borrow.{Bor}
use Rattle.std.specs.Cmp.{eq_by_cmp_equiv}
use Rattle.std.specs.List.{IsDistinct}
use Rattle.std.specs.Map.{keys_of}
use Rattle.std.specs.Ordering.{is_eq, nat_cmp}
use Rattle.std.proofs.lemmas.Bool.{eqb-true}
use Rattle.std.proofs.lemmas.Cmp.{nat_cmp_total}
use Rattle.std.proofs.lemmas.Map.Entries.{lookup_from_place, place_from_lookup}
use Rattle.tl_types.specs.Request.{Request}
use Rattle.check_cells.specs.Sent.{Sent}
use Rattle.check_beats.specs.State.{AskBegun, ask_so_far}
use Rattle.check_flight.specs.declared.flight.Flight as flight
use Rattle.check_flight.specs.Flight.{Flight, IsAskedAt, IsEndedAsk, asked, idle}
use Rattle.check_flight.specs.PortSlave.{PortSlave, once_cut}
use Rattle.check_watch.specs.Reset.{IsLeftPort}
use Rattle.check_watch.proofs.Resetting.{none_left_port, cut_left_port, both_left_port, alike_left_port, ask_here, ask_told, ask_at}
use Rattle.check_sides.specs.Flights.{IsOpenFlight, IsOpenOf, flight_kept, flight_of}
use Rattle.check_sides.proofs.Puts.{same_key}

pub some_same : {A : Type 0} (a b : A) → Some a ≡ Some b → a ≡ b
some_same a b is = ap (λ o. unwrap_or o a) is

pub none_some : {A : Type 0} (a : A) → None ≡ Some a → ⊥
none_some a is = cc

-- ---- one source

pub open_cut : (port source : ℕ) (answering : Option ℕ) (flight : Flight) (slave : PortSlave) (ask : Request)
    → IsAskedAt port flight.turn → option_map (λ (sent : Sent). sent.ask) (asked flight.turn) ≡ Some ask
    → (answering ≡ Some source → ⊥)
    → IsLeftPort (IsOpenFlight port answering source flight) slave (once_cut slave ask)
open_cut port source answering flight slave ask at is apart =
    alike_left_port (λ other. other ≡ ask) (IsOpenFlight port answering source flight) slave (once_cut slave ask)
    (λ other same. (ask_here port other flight.turn at (is ∙ ap (λ r. Some r) (sym same)), apart))
    (λ other held. some_same other ask (sym (ask_told port other flight.turn held.0) ∙ is))
    (cut_left_port slave ask)

pub none_open : (port source : ℕ) (answering : Option ℕ) (flight : Flight) (slave : PortSlave)
    → (answering ≡ Some source) ⊎ (IsAskedAt port flight.turn → ⊥)
    → IsLeftPort (IsOpenFlight port answering source flight) slave slave
none_open port source answering flight slave why =
    none_left_port (IsOpenFlight port answering source flight) slave
    (λ ask held. ⊎_elim (λ own. held.1 own)
    (λ none. none (ask_at port ask flight.turn held.0)) why)

-- ---- several of them

-- the request is open of one of these sources
abbrev pub OpenIn : List (ℕ × Flight) → ℕ → Option ℕ → Request → Type 0
OpenIn [] port answering ask = ⊥
OpenIn (entry ∷ kept) port answering ask = IsOpenFlight port answering entry.0 entry.1 ask ⊎ OpenIn kept port answering ask

open_more : (kept : List (ℕ × Flight)) (entry : ℕ × Flight) (port : ℕ) (answering : Option ℕ) (ask : Request)
    → OpenIn kept port answering ask ⊎ IsOpenFlight port answering entry.0 entry.1 ask
    → OpenIn (kept ++ entry ∷ []) port answering ask
open_more [] entry port answering ask is = ⊎_elim (λ none. absurd none) (λ held. inl held) is
open_more (first ∷ kept) entry port answering ask is =
    ⊎_elim
    (λ before. ⊎_elim (λ here. inl here) (λ there. inr (open_more kept entry port answering ask (inl there))) before)
    (λ held. inr (open_more kept entry port answering ask (inr held))) is

open_less : (kept : List (ℕ × Flight)) (entry : ℕ × Flight) (port : ℕ) (answering : Option ℕ) (ask : Request)
    → OpenIn (kept ++ entry ∷ []) port answering ask
    → OpenIn kept port answering ask ⊎ IsOpenFlight port answering entry.0 entry.1 ask
open_less [] entry port answering ask is = ⊎_elim (λ held. inr held) (λ none. absurd none) is
open_less (first ∷ kept) entry port answering ask is =
    ⊎_elim (λ here. inl (inl here))
    (λ there. ⊎_elim (λ before. inl (inr before)) (λ held. inr held) (open_less kept entry port answering ask there)) is

pub none_open_in : (port : ℕ) (answering : Option ℕ) (slave : PortSlave)
    → IsLeftPort (OpenIn [] port answering) slave slave
none_open_in port answering slave = none_left_port (OpenIn [] port answering) slave (λ ask none. none)

pub one_more_open : (kept : List (ℕ × Flight)) (entry : ℕ × Flight) (port : ℕ) (answering : Option ℕ)
    (slave mid left : PortSlave) → IsLeftPort (OpenIn kept port answering) slave mid
    → IsLeftPort (IsOpenFlight port answering entry.0 entry.1) mid left
    → IsLeftPort (OpenIn (kept ++ entry ∷ []) port answering) slave left
one_more_open kept entry port answering slave mid left first second =
    alike_left_port
    (λ ask. OpenIn kept port answering ask ⊎ IsOpenFlight port answering entry.0 entry.1 ask)
    (OpenIn (kept ++ entry ∷ []) port answering) slave left
    (open_more kept entry port answering) (open_less kept entry port answering)
    (both_left_port (OpenIn kept port answering) (IsOpenFlight port answering entry.0 entry.1) slave mid left first second)

-- ---- all of them

open_at : (kept : List (ℕ × Flight)) (place : ℕ) (entry : ℕ × Flight) (port : ℕ) (answering : Option ℕ) (ask : Request)
    → slice_get kept place ≡ Some entry → IsOpenFlight port answering entry.0 entry.1 ask → OpenIn kept port answering ask
open_at [] place entry port answering ask is held = cc
open_at (first ∷ kept) zero entry port answering ask is held =
    inl (subst (λ (e : ℕ × Flight). IsOpenFlight port answering e.0 e.1 ask) (sym (some_same first entry is)) held)
open_at (first ∷ kept) (suc place) entry port answering ask is held =
    inr (open_at kept place entry port answering ask is held)

place_of : (kept : List (ℕ × Flight)) (port : ℕ) (answering : Option ℕ) (ask : Request) → OpenIn kept port answering ask
    → (place : ℕ) × (source : ℕ) × (flight : Flight) × (slice_get kept place ≡ Some (source, flight))
    × IsOpenFlight port answering source flight ask
place_of [] port answering ask is = absurd is
place_of (first ∷ kept) port answering ask is =
    ⊎_elim (λ here. (0, first.0, first.1, refl, here))
    (λ there. let rest = place_of kept port answering ask there in (suc rest.0, rest.1, rest.2, rest.3, rest.4)) is

pub all_open : (kept : List (ℕ × Flight)) (port : ℕ) (answering : Option ℕ) (slave left : PortSlave)
    → IsDistinct (λ a b. is_eq (nat_cmp a b)) (keys_of kept)
    → IsLeftPort (OpenIn kept port answering) slave left → IsLeftPort (IsOpenOf kept port answering) slave left
all_open kept port answering slave left apart =
    alike_left_port (OpenIn kept port answering) (IsOpenOf kept port answering) slave left to from
  where
    to : (ask : Request) → OpenIn kept port answering ask → IsOpenOf kept port answering ask
    to ask is =
        let at = place_of kept port answering ask is in
        let found : flight_kept kept at.1 ≡ Some at.2 =
        lookup_from_place (eq_by_cmp_equiv nat_cmp_total) kept at.0 at.1 at.2 apart at.3 in (
          at.1,
          subst (λ (f : Flight). IsOpenFlight port answering at.1 f ask)
              (sym (ap (λ o. unwrap_or o idle) found)) at.4,
        )

    by_kept : (source : ℕ) (found : Option Flight) → flight_kept kept source ≡ found → (ask : Request)
        → IsOpenFlight port answering source (flight_of kept source) ask → OpenIn kept port answering ask
    by_kept source None none ask held =
        absurd (subst (λ (o : Option Flight). IsEndedAsk port ask (unwrap_or o idle).turn) none held.0)
    by_kept source (Some flight) found ask held =
        let at = place_from_lookup (λ key. is_eq (nat_cmp source key)) kept flight found in
        let own : source ≡ at.1 = eqb-true source at.1 (sym (same_key source at.1) ∙ at.3) in
        open_at kept at.0 (at.1, flight) port answering ask at.2 (
          subst (λ (o : Option Flight). IsEndedAsk port ask (unwrap_or o idle).turn) found held.0,
          subst (λ (n : ℕ). answering ≡ Some n → ⊥) own held.1,
        )

    from : (ask : Request) → IsOpenOf kept port answering ask → OpenIn kept port answering ask
    from ask is = by_kept is.0 (flight_kept kept is.0) refl ask is.1

-- what an iteration has handed out
abbrev pub handed : List (Bor ℕ × Bor flight.Flight) → List (ℕ × Flight)
handed entries = map (λ (entry : Bor ℕ × Bor flight.Flight). (entry.0.now, entry.1.now)) entries

pub handed_more : (entries : List (Bor ℕ × Bor flight.Flight)) (entry : Bor ℕ × Bor flight.Flight)
    → handed (entries ++ entry ∷ []) ≡ handed entries ++ (entry.0.now, entry.1.now) ∷ []
handed_more [] entry = refl
handed_more (first ∷ entries) entry = ap (λ rest. (first.0.now, first.1.now) ∷ rest) (handed_more entries entry)

-- ---- what is under way

pub under_cut : (begun : Option AskBegun) (slave left : PortSlave) (ask : Request) → ask_so_far begun ≡ Some ask
    → left ≡ once_cut slave ask → IsLeftPort (λ other. ask_so_far begun ≡ Some other) slave left
under_cut begun slave left ask is cut =
    subst (λ (s : PortSlave). IsLeftPort (λ other. ask_so_far begun ≡ Some other) slave s) (sym cut)
    (alike_left_port (λ other. other ≡ ask) (λ other. ask_so_far begun ≡ Some other) slave (once_cut slave ask)
    (λ other same. is ∙ ap (λ r. Some r) (sym same))
    (λ other here. some_same other ask (sym here ∙ is))
    (cut_left_port slave ask))

pub none_under : (begun : Option AskBegun) (slave : PortSlave) → ask_so_far begun ≡ None
    → IsLeftPort (λ other. ask_so_far begun ≡ Some other) slave slave
none_under begun slave is =
    none_left_port (λ other. ask_so_far begun ≡ Some other) slave (λ ask here. none_some ask (sym is ∙ here))
