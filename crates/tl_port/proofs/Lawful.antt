-- A book whose seat is lawful is lawful itself, where its parts are the seat's.
use Rattle.std.proofs.Common.{◌≡◌, ◌≢◌, ℕ, zero, suc, ◌+◌, ◌≤◌, List, [], ◌∷◌, length, slice_get, Some, None, refl, ap, sym, subst, ◌∙◌}
use Rattle.tl_types.specs.Request.{Request}
use Rattle.tl_types.specs.Response.{Response}
use Rattle.tl_ops.specs.History.{replay, asks_of, IsLawfulHistory}
use Rattle.tl_rule.specs.Serving.{ask_at, HasDistinctSlots}
use Rattle.tl_rule.proofs.Serving.{first_is, first_not}
use Rattle.tl_arena.specs.Promises.{IsLawfulPort}
use Rattle.tl_port.specs.Book.{BookView, IsLawfulBook, AreDistinctBy, reset}

-- what stands at a place is found by its slot
served_at : (fs : List (ℕ × Request)) (k : ℕ) (f : ℕ × Request) → HasDistinctSlots fs → slice_get fs k ≡ Some f
    → ask_at fs f.0 ≡ Some f.1
served_at [] k f once at = absurd cc
served_at (g ∷ fs) zero f once at = let same : g ≡ f = cc in rw same (first_is f fs f.0 refl)
served_at (g ∷ fs) (suc k) f once at =
    let later = served_at fs k f once.1 at in
    let other : g.0 ≢ f.0 = (λ e. let none = subst (λ (i : ℕ). ask_at fs i ≡ None) e once.0 in absurd (cc)) in
    first_not g fs f.0 other ∙ later

pub distinct_slots : (fs : List (ℕ × Request)) → HasDistinctSlots fs → AreDistinctBy (λ (f : ℕ × Request). f.0) fs
distinct_slots [] once j k x y first second same = absurd cc
distinct_slots (f ∷ fs) once zero zero x y first second same = refl
distinct_slots (f ∷ fs) once zero (suc k) x y first second same =
    let later = served_at fs k y once.1 second in
    let here : f ≡ x = cc in
    let slot : f.0 ≡ y.0 = ap (λ (g : ℕ × Request). g.0) here ∙ same in
    let none = subst (λ (i : ℕ). ask_at fs i ≡ None) slot once.0 in
    absurd (cc)
distinct_slots (f ∷ fs) once (suc j) zero x y first second same =
    let later = served_at fs j x once.1 first in
    let here : f ≡ y = cc in
    let slot : f.0 ≡ x.0 = ap (λ (g : ℕ × Request). g.0) here ∙ sym same in
    let none = subst (λ (i : ℕ). ask_at fs i ≡ None) slot once.0 in
    absurd (cc)
distinct_slots (f ∷ fs) once (suc j) (suc k) x y first second same =
    ap suc (distinct_slots fs once.1 j k x y first second same)

pub lawful_book : (b : BookView) → IsLawfulPort b.seat → b.flights ≡ b.seat.serving
    → b.store ≡ replay (reset b) (asks_of b.history)
    → b.seat.list ≡ b.history → length b.history + length b.flights ≤ b.journal → IsLawfulBook b
lawful_book b law serving bank list room =
    let here : HasDistinctSlots b.flights = subst HasDistinctSlots (sym serving) law.slots in
    record {
      sources = λ j k x y first second same.
          let found = served_at b.flights j x here first in
          let other = served_at b.flights k y here second in
          distinct_slots b.flights here j k x y first second (law.sources x.0 y.0 x.1 y.1
          (subst (λ (fs : List (ℕ × Request)). ask_at fs x.0 ≡ Some x.1) serving found)
          (subst (λ (fs : List (ℕ × Request)). ask_at fs y.0 ≡ Some y.1) serving other) same);
      slots = (distinct_slots b.flights here, serving);
      bank = bank;
      replies = subst (λ (h : List (Request × Response)). IsLawfulHistory (reset b) h) list law.lawful;
      list = list;
      room = room;
    }
