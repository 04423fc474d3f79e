-- What is kept says no more than the truth, once a request takes effect.
use Rattle.std.proofs.Common.{◌≡◌, ◌∙◌, ⊎_elim, ℕ, ◌+◌, ◌<◌, Bool, true, false, List, length, get_or, Option, Some, None, refl, sym, ap, subst}
use Rattle.check_memory.specs.Laws.{IsLawfulAsk}
use Rattle.std.proofs.lemmas.Bool.{cases_eq}
use Rattle.tl_ops.specs.declared.kind.Kind.TheVariants.{ClearRegs}
use Rattle.check_cells.specs.Sent.{Sent, is_corrupt}
use Rattle.check_memory.specs.Cells.{is_atomic}
use Rattle.check_memory.specs.Partial.{Partial, permits, visible, AreWithin, start_of}
use Rattle.check_memory.specs.Pattern.{Pattern, FitsPattern, pattern}
use Rattle.check_memory.specs.declared.slave.Slave.{Slave}
use Rattle.check_memory.specs.declared.slave.Slave.TheVariants.{Memory, Device}
use Rattle.check_contests.specs.Writes.{may_write}
use Rattle.check_contests.specs.Sent.{memory_after_sent, expected_of_sent}
use Rattle.check_contests.specs.Contests.{Accepted, kept_of}
use Rattle.check_contests.specs.Moments.{Course, asked_of, Truth, course_with, truth_serving, AreBytes}
use Rattle.check_contests.specs.Moments.Course.{Idle, Waiting, Served}
use Rattle.check_contests.specs.Below.{DueFits, IsKnownRightly, IsMemoryBelow, IsBelowTruth}
use Rattle.check_contests.proofs.Courses.{course-here, course-there}
use Rattle.check_contests.proofs.Effect.{with_cells, visible_in, stands, Matters}
use Rattle.check_contests.proofs.Expected.{unsure_if, fits_known, pattern_denied, pattern_more, pattern_long}
use Rattle.check_contests.proofs.Sending.{cells_after_sent, after_sent_is, after_sent_seen, length-cells_after_sent, sent_stays, sent_more, sent_small}

-- the two memories, and a request that waits
pub record Serves (ours : List (Option ℕ)) (truth : Partial) (kept : List Accepted) (course : ℕ → Course) (wide : ℕ) (sent : Sent) : Type 0 where
  pub below : IsMemoryBelow (with_cells truth ours) truth kept course
  pub waits : course wide ≡ Waiting sent

-- the request of each wide source is the same
asked_same : (course : ℕ → Course) (wide : ℕ) (sent : Sent) (reply : Pattern) (other : ℕ) → course wide ≡ Waiting sent
    → asked_of (course_with course wide (Served sent reply) other) ≡ asked_of (course other)
asked_same course wide sent reply other waits = ⊎_elim
    (λ same. ap asked_of (ap (course_with course wide (Served sent reply)) same
    ∙ course-here course wide (Served sent reply))
    ∙ sym (ap asked_of (ap course same ∙ waits)))
    (λ apart. ap asked_of (course-there course wide (Served sent reply) other apart))
    (cases_eq other wide)

-- one that waits then waited before, and is another one
waited : (course : ℕ → Course) (wide : ℕ) (sent : Sent) (reply : Pattern) (other : ℕ) (sent' : Sent)
    → course_with course wide (Served sent reply) other ≡ Waiting sent'
    → (other ≡ wide → ⊥) × (course other ≡ Waiting sent')
waited course wide sent reply other sent' is = ⊎_elim
    (λ (same : other ≡ wide). absurd (served_waits
    (sym (ap (course_with course wide (Served sent reply)) same ∙ course-here course wide (Served sent reply)) ∙ is)))
    (λ apart. (apart, sym (course-there course wide (Served sent reply) other apart) ∙ is))
    (cases_eq other wide)
  where
    served_waits : Served sent reply ≡ Waiting sent' → ⊥
    served_waits e = cc

small_true : (truth : Partial) → (truth.kind ≡ ClearRegs → AreBytes (visible truth)) → (a : ℕ)
    → truth.kind ≡ ClearRegs → (byte : ℕ) → get_or (visible truth) a None ≡ Some byte → byte < 256
small_true truth bytes a clears byte known = bytes clears a byte known

-- a byte that is known
served_byte : (ours : List (Option ℕ)) (truth : Partial) (kept : List Accepted) (course : ℕ → Course) (wide : ℕ)
    (sent : Sent) (reply : Pattern) (a byte : ℕ) → Serves ours truth kept course wide sent
    → get_or (visible_in truth ours) a None ≡ Some byte
    → IsKnownRightly (with_cells truth (cells_after_sent truth sent truth.cells))
    (course_with course wide (Served sent reply)) a byte
served_byte ours truth kept course wide sent reply a byte is known = record {
  alone = λ w ask' here may other ask'' there apart.
      right.alone w ask' (sym (asked_same course wide sent reply w is.waits) ∙ here) may other ask''
      (sym (asked_same course wide sent reply other is.waits) ∙ there) apart;
  to_come = λ w sent' waits may.
      let before = waited course wide sent reply w sent' waits in
      after_sent_seen (with_cells truth left) sent' a
      ∙ sent_more truth sent' truth.cells left a byte is.below.within
      (sym (length-cells_after_sent truth sent truth.cells is.below.within lawful))
      (is.below.carried w sent'.ask (ap asked_of before.1)).lawful may
      (λ place b matters there.
      unmoved place (untouched w sent' before may place (is_atomic sent'.ask.op) refl matters) ∙ there)
      (sym (after_sent_seen truth sent' a) ∙ right.to_come w sent' before.1 may);
  combined = λ w sent' waits may atomic place here other ask'' there apart.
      let before = waited course wide sent reply w sent' waits in
      right.combined w sent' before.1 may atomic place here other ask''
      (sym (asked_same course wide sent reply other is.waits) ∙ there) apart;
  there = λ none. by_cases none (may_write truth sent.ask a) refl;
}
  where
    left : List (Option ℕ)
    left = cells_after_sent truth sent truth.cells

    right : IsKnownRightly truth course a byte
    right = is.below.known a byte known

    lawful : IsLawfulAsk sent.ask
    lawful = (is.below.carried wide sent.ask (ap asked_of is.waits)).lawful

    unmoved : (place : ℕ) → may_write truth sent.ask place ≡ false
        → get_or (visible_in truth left) place None ≡ get_or (visible truth) place None
    unmoved place none = sent_stays truth sent truth.cells place is.below.within lawful
        (small_true truth is.below.bytes place) none

    untouched : (w : ℕ) (sent' : Sent) → (w ≡ wide → ⊥) × (course w ≡ Waiting sent') → may_write truth sent'.ask a ≡ true
        → (place : ℕ) (atomic : Bool) → is_atomic sent'.ask.op ≡ atomic → Matters truth sent'.ask a place
        → may_write truth sent.ask place ≡ false
    untouched w sent' before may place true atomic matters =
        right.combined w sent' before.1 may atomic place matters.0 wide sent.ask (ap asked_of is.waits)
        (λ same. before.0 (sym same))
    untouched w sent' before may place false atomic matters =
        let P : ℕ → Type 0 = λ n. may_write truth sent.ask n ≡ false in
        subst P (sym (matters.1 atomic))
        (right.alone w sent'.ask (ap asked_of before.1) may wide sent.ask (ap asked_of is.waits)
        (λ same. before.0 (sym same)))

    by_cases : ((w : ℕ) (sent' : Sent) → course_with course wide (Served sent reply) w ≡ Waiting sent'
        → may_write truth sent'.ask a ≡ false)
        → (may : Bool) → may_write truth sent.ask a ≡ may
        → get_or (visible_in truth left) a None ≡ Some byte
    by_cases none true may = sym (after_sent_seen truth sent a) ∙ right.to_come wide sent is.waits may
    by_cases none false may = unmoved a may ∙ right.there (λ w sent' waits. ⊎_elim
        (λ (same : w ≡ wide).
        let both : Waiting sent ≡ Waiting sent' = sym (ap course same ∙ is.waits) ∙ waits in
        let P : Sent → Type 0 = λ x. may_write truth x.ask a ≡ false in
        subst P (waiting_same sent' both) may)
        (λ apart. none w sent' (course-there course wide (Served sent reply) w apart ∙ waits))
        (cases_eq w wide))
      where
        waiting_same : (sent' : Sent) → Waiting sent ≡ Waiting sent' → sent ≡ sent'
        waiting_same sent' e = cc

-- the memory then
pub served_below : (ours : List (Option ℕ)) (truth : Partial) (kept : List Accepted) (course : ℕ → Course) (wide : ℕ)
    (sent : Sent) (reply : Pattern) → Serves ours truth kept course wide sent
    → IsMemoryBelow (with_cells truth ours) (with_cells truth (cells_after_sent truth sent truth.cells)) kept
    (course_with course wide (Served sent reply))
served_below ours truth kept course wide sent reply is =
    let carried = is.below.carried wide sent.ask (ap asked_of is.waits) in
    let long : length (cells_after_sent truth sent truth.cells) ≡ length truth.cells =
    length-cells_after_sent truth sent truth.cells is.below.within carried.lawful in
    record {
      same = refl;
      counted = is.below.counted ∙ sym long;
      within = subst (λ (n : ℕ). AreWithin truth.ranges n) (sym long) is.below.within;
      bytes = λ clears. sent_small truth sent truth.cells clears is.below.within carried.lawful (is.below.bytes clears)
          (carried.bytes clears);
      our_bytes = is.below.our_bytes;
      carried = λ other ask' there.
          let before = is.below.carried other ask' (sym (asked_same course wide sent reply other is.waits) ∙ there) in
          record { lawful = before.lawful; bytes = before.bytes };
      known = λ a byte known. served_byte ours truth kept course wide sent reply a byte is known;
      dues = λ w entry sent' there waits legal place byte known other ask'' asked apart.
          let before = waited course wide sent reply w sent' waits in
          is.below.dues w entry sent' there before.1 legal place byte known other ask''
          (sym (asked_same course wide sent reply other is.waits) ∙ asked) apart;
    }

-- ---- what is due fits

memory_fits : (ours : List (Option ℕ)) (truth : Partial) (kept : List Accepted) (course : ℕ → Course) (wide : ℕ)
    (sent : Sent) → Serves ours truth kept course wide sent → (w : ℕ) (entry : Accepted) (sent' : Sent)
    → (w ≡ wide → ⊥) → course w ≡ Waiting sent' → kept_of kept w ≡ Some entry
    → FitsPattern entry.due (expected_of_sent (Memory truth) sent')
    → FitsPattern entry.due (expected_of_sent (Memory (with_cells truth (cells_after_sent truth sent truth.cells))) sent')
memory_fits ours truth kept course wide sent is w entry sent' apart waits there fits =
    by_cases (permits truth sent'.ask) refl
  where
    left : List (Option ℕ)
    left = cells_after_sent truth sent truth.cells

    lawful : IsLawfulAsk sent.ask
    lawful = (is.below.carried wide sent.ask (ap asked_of is.waits)).lawful

    lawful' : IsLawfulAsk sent'.ask
    lawful' = (is.below.carried w sent'.ask (ap asked_of waits)).lawful

    within' : AreWithin truth.ranges (length left)
    within' = subst (λ (n : ℕ). AreWithin truth.ranges n)
        (sym (length-cells_after_sent truth sent truth.cells is.below.within lawful)) is.below.within

    by_cases : (p : Bool) → permits truth sent'.ask ≡ p
        → FitsPattern entry.due (expected_of_sent (Memory (with_cells truth left)) sent')
    by_cases true legal =
        let s = stands truth sent'.ask truth.cells is.below.within lawful' legal in
        let s' = stands truth sent'.ask left within' lawful' legal in
        fits_known (is_corrupt sent') entry.due (pattern truth sent'.ask) (pattern (with_cells truth left) sent'.ask).bytes
        (sym (pattern_long truth sent'.ask truth.cells left legal s s'))
        (λ place byte known seen.
        pattern_more truth sent'.ask truth.cells left place byte legal s
        (λ here. sent_stays truth sent truth.cells (start_of truth sent'.ask + place) is.below.within lawful
        (small_true truth is.below.bytes (start_of truth sent'.ask + place))
        (is.below.dues w entry sent' there waits legal place byte known wide sent.ask (ap asked_of is.waits)
        (λ same. apart (sym same)))
        ∙ here)
        seen)
        fits
    by_cases false denied =
        subst (λ (p : Pattern). FitsPattern entry.due (unsure_if (is_corrupt sent') p))
        (pattern_denied truth sent'.ask truth.cells left denied) fits

-- of each course, by what the others make of it
fits_then : (slave slave' : Slave) (course : ℕ → Course) (wide : ℕ) (sent : Sent) (w : ℕ) (due : Pattern)
    → course wide ≡ Waiting sent
    → ((sent' : Sent) → (w ≡ wide → ⊥) → course w ≡ Waiting sent' → FitsPattern due (expected_of_sent slave sent')
    → FitsPattern due (expected_of_sent slave' sent'))
    → DueFits slave due (course w)
    → DueFits slave' due (course_with course wide (Served sent (expected_of_sent slave sent)) w)
fits_then slave slave' course wide sent w due waits others fits = ⊎_elim
    (λ (same : w ≡ wide).
    let here : course_with course wide now w ≡ now =
    ap (course_with course wide now) same ∙ course-here course wide now in
    subst (λ (c : Course). DueFits slave' due c) (sym here)
    (subst (λ (c : Course). DueFits slave due c) (ap course same ∙ waits) fits))
    (λ (apart : w ≡ wide → ⊥).
    subst (λ (c : Course). DueFits slave' due c)
    (sym (course-there course wide now w apart))
    (by_course (course w) (λ sent' is. others sent' apart is) fits))
    (cases_eq w wide)
  where
    now : Course
    now = Served sent (expected_of_sent slave sent)

    by_course : (c : Course) → ((sent' : Sent) → c ≡ Waiting sent' → FitsPattern due (expected_of_sent slave sent')
        → FitsPattern due (expected_of_sent slave' sent')) → DueFits slave due c → DueFits slave' due c
    by_course Idle others' fits' = tt
    by_course (Waiting sent') others' fits' = others' sent' refl fits'
    by_course (Served sent' reply) others' fits' = fits'

-- ---- slaves of any kind

abbrev at : Slave → (ℕ → Course) → Truth
at slave course = record { slave = slave; course = course }

memory_keeps : (ours : List (Option ℕ)) (truth : Partial) (kept : List Accepted) (course : ℕ → Course) (wide : ℕ)
    (sent : Sent) → IsBelowTruth (Memory (with_cells truth ours)) kept (at (Memory truth) course)
    → course wide ≡ Waiting sent
    → IsBelowTruth (Memory (with_cells truth ours)) kept
    (at (Memory (with_cells truth (cells_after_sent truth sent truth.cells)))
    (course_with course wide (Served sent (expected_of_sent (Memory truth) sent))))
memory_keeps ours truth kept course wide sent is waits =
    let serves : Serves ours truth kept course wide sent = record { below = is.slave; waits = waits } in
    let expected : Pattern = expected_of_sent (Memory truth) sent in
    record {
      apart = is.apart;
      asks = λ w. is.asks w ∙ sym (asked_same course wide sent expected w waits);
      fits = λ w entry there. fits_then (Memory truth) (Memory (with_cells truth (cells_after_sent truth sent truth.cells)))
          course wide sent w entry.due waits
          (λ sent' apart waits' fits. memory_fits ours truth kept course wide sent serves w entry sent' apart waits' there fits)
          (is.fits w entry there);
      slave = served_below ours truth kept course wide sent expected serves;
    }

slave_keeps : (ours truth : Slave) (kept : List Accepted) (course : ℕ → Course) (wide : ℕ) (sent : Sent)
    → IsBelowTruth ours kept (at truth course) → course wide ≡ Waiting sent
    → IsBelowTruth ours kept (truth_serving (at truth course) wide sent)
slave_keeps (Memory memory) (Memory truth) kept course wide sent is waits =
    let same : memory ≡ with_cells truth memory.cells = is.slave.same in
    let before : IsBelowTruth (Memory (with_cells truth memory.cells)) kept (at (Memory truth) course) =
    subst (λ (m : Partial). IsBelowTruth (Memory m) kept (at (Memory truth) course)) same is in
    let course' : ℕ → Course = course_with course wide (Served sent (expected_of_sent (Memory truth) sent)) in
    subst (λ (m : Partial). IsBelowTruth (Memory m) kept (at (Memory (memory_after_sent truth sent)) course')) (sym same)
    (subst (λ (m : Partial). IsBelowTruth (Memory (with_cells truth memory.cells)) kept (at (Memory m) course'))
    (sym (after_sent_is truth sent)) (memory_keeps memory.cells truth kept course wide sent before waits))
slave_keeps (Memory memory) Device kept course wide sent is waits = absurd is.slave
slave_keeps Device (Memory truth) kept course wide sent is waits = absurd is.slave
slave_keeps Device Device kept course wide sent is waits = record {
  apart = is.apart;
  asks = λ w. is.asks w ∙ sym (asked_same course wide sent (expected_of_sent Device sent) w waits);
  fits = λ w entry there. fits_then Device Device course wide sent w entry.due waits (λ sent' apart waits' fits. fits)
      (is.fits w entry there);
  slave = tt;
}

pub serving_keeps : (ours : Slave) (kept : List Accepted) (truth : Truth) (wide : ℕ) (sent : Sent)
    → IsBelowTruth ours kept truth → truth.course wide ≡ Waiting sent
    → IsBelowTruth ours kept (truth_serving truth wide sent)
serving_keeps ours kept truth wide sent is waits = slave_keeps ours truth.slave kept truth.course wide sent is waits
