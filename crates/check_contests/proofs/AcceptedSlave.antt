-- What is kept says no more than the truth, once a request is accepted: slaves of any kind.
use Rattle.std.proofs.Common.{◌≡◌, ◌∙◌, ⊎_elim, ℕ, ◌+◌, Bool, true, false, List, map, Option, Some, None, refl, sym, ap, subst}
use Rattle.tl_types.specs.Request.{Request}
use Rattle.check_cells.specs.Sent.{Sent, is_corrupt}
use Rattle.check_memory.specs.Partial.{Partial, permits, start_of}
use Rattle.check_memory.specs.Pattern.{Pattern, FitsPattern, pattern, device_pattern}
use Rattle.check_memory.specs.declared.slave.Slave.{Slave}
use Rattle.check_memory.specs.declared.slave.Slave.TheVariants.{Memory, Device}
use Rattle.check_contests.specs.Writes.{may_write}
use Rattle.check_contests.specs.Sent.{expected_of_sent}
use Rattle.check_contests.specs.Contests.{Accepted, one_may_write, due_of, slave_accepting, entry_accepting, kept_accepting, kept_of}
use Rattle.check_contests.specs.Moments.{Course, asked_of, Truth, course_with, truth_accepting, IsCarried}
use Rattle.check_contests.specs.Moments.Course.{Idle, Waiting, Served}
use Rattle.check_contests.specs.Below.{AreApart, DueFits, IsBelowTruth}
use Rattle.check_contests.proofs.AcceptedMemory.{Asks, Accepts, IsOld, IsNewEntry, none_there, none_before, within_ours, same_wide, new_entry, none_then, entry_cases, asks_then, below_then}
use Rattle.check_contests.proofs.Courses.{course-here, course-there}
use Rattle.check_contests.proofs.Effect.{with_cells, stands}
use Rattle.check_contests.proofs.Expected.{fits_itself, fits_through, unsure_if, fits_known, beside_below, beside_known, pattern_denied, pattern_more, pattern_long}
use Rattle.check_contests.proofs.Kept.{apart-map, apart-new}
use Rattle.check_contests.proofs.Uncontested.{device_expects}

-- what is due to the new one says no more than what is expected of the true memory
new_fits : (ours : List (Option ℕ)) (truth : Partial) (kept : List Accepted) (course : ℕ → Course) (wide : ℕ)
    (sent : Sent) → Accepts ours truth kept course wide sent
    → FitsPattern (due_of (Memory (with_cells truth ours)) kept sent) (expected_of_sent (Memory truth) sent)
new_fits ours truth kept course wide sent is = by_cases (permits truth sent.ask) refl
  where
    memory : Partial
    memory = with_cells truth ours

    expected : Pattern
    expected = expected_of_sent (Memory memory) sent

    due : Pattern
    due = due_of (Memory memory) kept sent

    fits : FitsPattern due expected
    fits = beside_below memory sent.ask (one_may_write memory kept) expected

    by_cases : (p : Bool) → permits truth sent.ask ≡ p → FitsPattern due (expected_of_sent (Memory truth) sent)
    by_cases true legal =
        let s = stands truth sent.ask ours (within_ours ours truth kept course is.below) is.carried.lawful legal in
        let s' = stands truth sent.ask truth.cells is.below.within is.carried.lawful legal in
        fits_known (is_corrupt sent) due (pattern memory sent.ask) (pattern truth sent.ask).bytes
        (sym (pattern_long truth sent.ask ours truth.cells legal s s'))
        (λ place byte known seen.
        let free = beside_known memory sent.ask (one_may_write memory kept) expected place byte legal known in
        pattern_more truth sent.ask ours truth.cells place byte legal s
        (λ here. (is.below.known (start_of memory sent.ask + place) byte here).there
        (λ other sent' waits. none_there (λ x. may_write truth x (start_of memory sent.ask + place)) kept course other sent'.ask
        is.asks free.0 (ap asked_of waits)))
        seen)
        fits
    by_cases false denied =
        subst (λ (p : Pattern). FitsPattern due (unsure_if (is_corrupt sent) p))
        (pattern_denied truth sent.ask ours truth.cells denied) fits

-- what says less fits what more did
pub fits_less : (slave : Slave) (less due : Pattern) (course : Course) → FitsPattern less due → DueFits slave due course
    → DueFits slave less course
fits_less slave less due Idle below fits = tt
fits_less slave less due (Waiting sent) below fits = fits_through less due (expected_of_sent slave sent) below fits
fits_less slave less due (Served sent reply) below fits = fits_through less due reply below fits

entry_below : (slave : Slave) (ask : Request) (entry : Accepted) → FitsPattern (entry_accepting slave ask entry).due entry.due
entry_below (Memory memory) ask entry = beside_below memory entry.ask (may_write memory ask) entry.due
entry_below Device ask entry = fits_itself entry.due

fits_then : (ours truth : Slave) (kept : List Accepted) (course : ℕ → Course) (wide index : ℕ) (sent : Sent)
    → Asks kept course → course wide ≡ Idle → FitsPattern (due_of ours kept sent) (expected_of_sent truth sent)
    → ((w : ℕ) (entry : Accepted) → kept_of kept w ≡ Some entry → DueFits truth entry.due (course w))
    → (w : ℕ) (entry : Accepted) → kept_of (kept_accepting ours kept wide index sent) w ≡ Some entry
    → DueFits truth entry.due (course_with course wide (Waiting sent) w)
fits_then ours truth kept course wide index sent asks idle new fits w entry there = ⊎_elim
    (λ (is : IsNewEntry ours kept wide index sent w entry).
    let here : course_with course wide (Waiting sent) w ≡ Waiting sent =
    ap (course_with course wide (Waiting sent)) is.0 ∙ course-here course wide (Waiting sent) in
    let first : DueFits truth (due_of ours kept sent) (course_with course wide (Waiting sent) w) =
    subst (λ (c : Course). DueFits truth (due_of ours kept sent) c) (sym here) new in
    subst (λ (e : Accepted). DueFits truth e.due (course_with course wide (Waiting sent) w)) is.1 first)
    (λ (is : IsOld ours kept wide sent.ask w entry).
    let e = is.1.0 in
    let first : DueFits truth (entry_accepting ours sent.ask e).due (course w) =
    fits_less truth (entry_accepting ours sent.ask e).due e.due (course w) (entry_below ours sent.ask e) (fits w e is.1.1) in
    let second : DueFits truth entry.due (course w) =
    subst (λ (x : Accepted). DueFits truth x.due (course w)) is.1.2 first in
    subst (λ (c : Course). DueFits truth entry.due c) (sym (course-there course wide (Waiting sent) w is.0)) second)
    (entry_cases ours kept wide index sent w entry (none_before kept course wide asks idle) there)

apart_then : (ours : Slave) (kept : List Accepted) (wide index : ℕ) (sent : Sent) → kept_of kept wide ≡ None
    → AreApart kept → AreApart (kept_accepting ours kept wide index sent)
apart_then ours kept wide index sent none apart =
    apart-new (map (entry_accepting ours sent.ask) kept) (new_entry ours kept wide index sent)
    (none_then ours kept wide sent.ask none) (apart-map (entry_accepting ours sent.ask) kept (same_wide ours sent.ask) apart)

abbrev at : Slave → (ℕ → Course) → Truth
at slave course = record { slave = slave; course = course }

memory_keeps : (ours : List (Option ℕ)) (truth : Partial) (kept : List Accepted) (course : ℕ → Course) (wide index : ℕ)
    (sent : Sent) → IsBelowTruth (Memory (with_cells truth ours)) kept (at (Memory truth) course)
    → course wide ≡ Idle → IsCarried (Memory truth) sent.ask
    → IsBelowTruth (slave_accepting (Memory (with_cells truth ours)) kept sent)
    (kept_accepting (Memory (with_cells truth ours)) kept wide index sent)
    (truth_accepting (at (Memory truth) course) wide sent)
memory_keeps ours truth kept course wide index sent is idle carried =
    let slave : Slave = Memory (with_cells truth ours) in
    let none : kept_of kept wide ≡ None = none_before kept course wide is.asks idle in
    let accepts : Accepts ours truth kept course wide sent =
    record { below = is.slave; asks = is.asks; idle = idle; carried = carried } in
    record {
      apart = apart_then slave kept wide index sent none is.apart;
      asks = asks_then slave kept course wide index sent none is.asks;
      fits = fits_then slave (Memory truth) kept course wide index sent is.asks idle
          (new_fits ours truth kept course wide sent accepts) is.fits;
      slave = below_then ours truth kept course wide index sent accepts;
    }

slave_keeps : (ours truth : Slave) (kept : List Accepted) (course : ℕ → Course) (wide index : ℕ) (sent : Sent)
    → IsBelowTruth ours kept (at truth course) → course wide ≡ Idle → IsCarried truth sent.ask
    → IsBelowTruth (slave_accepting ours kept sent) (kept_accepting ours kept wide index sent)
    (truth_accepting (at truth course) wide sent)
slave_keeps (Memory memory) (Memory truth) kept course wide index sent is idle carried =
    let same : memory ≡ with_cells truth memory.cells = is.slave.same in
    let before : IsBelowTruth (Memory (with_cells truth memory.cells)) kept (at (Memory truth) course) =
    subst (λ (m : Partial). IsBelowTruth (Memory m) kept (at (Memory truth) course)) same is in
    subst (λ (m : Partial). IsBelowTruth (slave_accepting (Memory m) kept sent)
    (kept_accepting (Memory m) kept wide index sent) (truth_accepting (at (Memory truth) course) wide sent)) (sym same)
    (memory_keeps memory.cells truth kept course wide index sent before idle carried)
slave_keeps (Memory memory) Device kept course wide index sent is idle carried = absurd is.slave
slave_keeps Device (Memory truth) kept course wide index sent is idle carried = absurd is.slave
slave_keeps Device Device kept course wide index sent is idle carried =
    let none : kept_of kept wide ≡ None = none_before kept course wide is.asks idle in
    record {
      apart = apart_then Device kept wide index sent none is.apart;
      asks = asks_then Device kept course wide index sent none is.asks;
      fits = fits_then Device Device kept course wide index sent is.asks idle (subst (λ (p : Pattern). FitsPattern (device_pattern sent.ask) p) (device_expects sent)
          (fits_itself (device_pattern sent.ask))) is.fits;
      slave = tt;
    }

pub accepting_keeps : (ours : Slave) (kept : List Accepted) (truth : Truth) (wide index : ℕ) (sent : Sent)
    → IsBelowTruth ours kept truth → truth.course wide ≡ Idle → IsCarried truth.slave sent.ask
    → IsBelowTruth (slave_accepting ours kept sent) (kept_accepting ours kept wide index sent)
    (truth_accepting truth wide sent)
accepting_keeps ours kept truth wide index sent is idle carried =
    slave_keeps ours truth.slave kept truth.course wide index sent is idle carried
