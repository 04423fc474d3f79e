-- A book stays as it should be when a request is accepted, and when the oldest is answered.
use Rattle.std.proofs.Common.{◌≡◌, ◌≢◌, ℕ, ◌+◌, ◌<◌, List, [], ◌∷◌, ◌++◌, length, Some, refl, ap, sym, ◌∙◌, arith, length-append, eq-eqb}
use Rattle.tl_types.specs.Request.{Request}
use Rattle.tl_types.specs.Response.{Response}
use Rattle.tl_ops.specs.Store.{Store, after, reply}
use Rattle.tl_ops.specs.History.{replay, asks_of}
use Rattle.tl_ops.proofs.Histories.{replay-append, asks_of-append}
use Rattle.tl_rule.specs.Serving.{ask_at, drop_slot}
use Rattle.tl_rule.proofs.Serving.{first_is}
use Rattle.tl_rule.specs.Views.{reset_of}
use Rattle.tl_arena.specs.Views.{PortView, with_accepted, with_answered}
use Rattle.tl_arena.specs.Promises.{IsLawfulPort}
use Rattle.tl_port.specs.Book.{BookView, IsLawfulBook, reset}
use Rattle.tl_port.specs.Steps.{with_flight, with_served}
use Rattle.tl_port.specs.Kept.{IsKeptBook}
use Rattle.tl_port.proofs.Lawful.{lawful_book}

pub takes_on : (b c : BookView) (entries flights flights' : ℕ) (f : ℕ × Request) → IsKeptBook b entries flights
    → length b.history + length b.flights ≢ b.journal
    → c ≡ with_flight b f → IsLawfulPort c.seat → flights' ≡ flights → IsKeptBook c entries flights'
takes_on b c entries flights flights' f kept room is law same_flights =
    let was = kept.lawful in
    let seat : c.seat ≡ with_accepted b.seat f = ap (λ (d : BookView). d.seat) is in
    let pushed : c.flights ≡ b.flights ++ f ∷ [] = ap (λ (d : BookView). d.flights) is in
    let history : c.history ≡ b.history = ap (λ (d : BookView). d.history) is in
    let serving : c.flights ≡ c.seat.serving =
    pushed ∙ (ap (λ (fs : List (ℕ × Request)). fs ++ f ∷ []) was.slots.1
    ∙ sym (ap (λ (u : PortView). u.serving) seat)) in
    let resets : reset c ≡ reset b = ap (λ (u : PortView). reset_of u.arena.about u.number) seat in
    let bank : c.store ≡ replay (reset c) (asks_of c.history) =
    ap (λ (d : BookView). d.store) is ∙ (was.bank
    ∙ (ap (λ (s : Store). replay s (asks_of b.history)) (sym resets)
    ∙ ap (λ (h : List (Request × Response)). replay (reset c) (asks_of h)) (sym history))) in
    let journal : c.journal ≡ b.journal = ap (λ (d : BookView). d.journal) is in
    let slots : c.seat.arena.about.slots ≡ b.seat.arena.about.slots = ap (λ (u : PortView). u.arena.about.slots) seat in
    let entries_same = ap length history in
    let many = ap length pushed in
    let more = length-append b.flights (f ∷ []) in
    let old = was.room in
    record {
      lawful = lawful_book c law serving bank (ap (λ (u : PortView). u.list) seat ∙ (was.list ∙ sym history))
          (omega arith);
      entries_fit = rw journal kept.entries_fit;
      flights_fit = rw (slots, same_flights) kept.flights_fit;
    }

-- dropping the slot of the oldest leaves the others
drop_first : (f : ℕ × Request) (fs : List (ℕ × Request)) → drop_slot f.0 (f ∷ fs) ≡ fs
drop_first f fs = rw (eq-eqb f.0 f.0 refl) refl

same_book : (u v : PortView) (s t : Store) (h i : List (Request × Response)) (fs : List (ℕ × Request)) (m n : ℕ) → u ≡ v
    → s ≡ t → h ≡ i → m ≡ n
    → ◌≡◌ {A = BookView} (record { seat = u; store = s; history = h; flights = fs; journal = m })
    (record { seat = v; store = t; history = i; flights = fs; journal = n })
same_book u v s t h i fs m n seat store history journal = cc

-- a book with these parts is the one with the oldest request served
pub served_is : (b c : BookView) (f : ℕ × Request) → c.seat ≡ with_answered b.seat f (reply b.store f.1)
    → c.store ≡ after b.store f.1 → c.history ≡ b.history ++ (f.1, reply b.store f.1) ∷ []
    → c.journal ≡ b.journal → c ≡ with_served b f c.flights
served_is b c f seat store history journal =
    same_book c.seat _ c.store _ c.history _ c.flights c.journal _ seat store history journal

pub serves_on : (b c : BookView) (entries flights entries' flights' : ℕ) (f : ℕ × Request)
    → IsKeptBook b entries flights → b.flights ≡ f ∷ c.flights
    → c ≡ with_served b f c.flights → IsLawfulPort c.seat → entries' ≡ entries → flights' ≡ flights
    → IsKeptBook c entries' flights'
serves_on b c entries flights entries' flights' f kept oldest is law same_entries same_flights =
    let was = kept.lawful in
    let r = reply b.store f.1 in
    let seat : c.seat ≡ with_answered b.seat f r = ap (λ (d : BookView). d.seat) is in
    let history : c.history ≡ b.history ++ (f.1, r) ∷ [] = ap (λ (d : BookView). d.history) is in
    let resets : reset c ≡ reset b = ap (λ (u : PortView). reset_of u.arena.about u.number) seat in
    let serving : c.flights ≡ c.seat.serving =
    sym (ap (λ (u : PortView). u.serving) seat
    ∙ (ap (λ (fs : List (ℕ × Request)). drop_slot f.0 fs) (sym was.slots.1 ∙ oldest) ∙ drop_first f c.flights)) in
    let asks : asks_of c.history ≡ asks_of b.history ++ f.1 ∷ [] =
    ap (λ (h : List (Request × Response)). asks_of h) history ∙ asks_of-append b.history f.1 r in
    let bank : c.store ≡ replay (reset c) (asks_of c.history) =
    ap (λ (d : BookView). d.store) is ∙ (ap (λ (s : Store). after s f.1) was.bank
    ∙ (sym (replay-append (reset b) (asks_of b.history) f.1)
    ∙ (ap (λ (qs : List Request). replay (reset b) qs) (sym asks)
    ∙ ap (λ (s : Store). replay s (asks_of c.history)) (sym resets)))) in
    let listed : c.seat.list ≡ c.history =
    ap (λ (u : PortView). u.list) seat ∙ (ap (λ (h : List (Request × Response)). h ++ (f.1, r) ∷ []) was.list
    ∙ sym history) in
    let journal : c.journal ≡ b.journal = ap (λ (d : BookView). d.journal) is in
    let slots : c.seat.arena.about.slots ≡ b.seat.arena.about.slots = ap (λ (u : PortView). u.arena.about.slots) seat in
    let entry = ap length history in
    let more = length-append b.history ((f.1, r) ∷ []) in
    let fewer = ap length oldest in
    let room = was.room in
    record {
      lawful = lawful_book c law serving bank listed (omega arith);
      entries_fit = rw (journal, same_entries) kept.entries_fit;
      flights_fit = rw (slots, same_flights) kept.flights_fit;
    }

-- the oldest request is found by its slot
pub oldest_is_served : (b : BookView) (f : ℕ × Request) (left : List (ℕ × Request)) → IsLawfulBook b
    → b.flights ≡ f ∷ left → ask_at b.seat.serving f.0 ≡ Some f.1
oldest_is_served b f left lawful oldest = rw (← lawful.slots.1, oldest) (first_is f left f.0 refl)

-- the list is short enough for one entry more
pub list_is_short : (b : BookView) (f : ℕ × Request) (left : List (ℕ × Request)) → IsLawfulBook b → b.flights ≡ f ∷ left
    → length b.seat.list < b.journal
list_is_short b f left lawful oldest =
    let many = ap length oldest in
    let same = ap length lawful.list in
    let room = lawful.room in
    omega arith
