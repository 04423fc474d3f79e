-- What is kept says no more than the truth, once a request is accepted.
use Rattle.std.proofs.Common.{◌≡◌, ◌∙◌, ◌⊎◌, inl, inr, ⊎_elim, ℕ, ◌+◌, Bool, true, false, List, length, map, get_or, Option, Some, None, refl, sym, ap, subst}
use Rattle.std.specs.List.{list_any}
use Rattle.std.specs.Prelude.{option_map}
use Rattle.std.proofs.lemmas.Bool.{cases_eq}
use Rattle.tl_types.specs.Request.{Request}
use Rattle.check_cells.specs.Sent.{Sent}
use Rattle.check_memory.specs.Partial.{Partial, permits, is_volatile, visible, AreWithin, start_of}
use Rattle.check_memory.specs.Pattern.{Pattern}
use Rattle.check_memory.specs.declared.slave.Slave.{Slave}
use Rattle.check_memory.specs.declared.slave.Slave.TheVariants.{Memory, Device}
use Rattle.check_memory.proofs.Unknown.{known_where, length-unknown_where}
use Rattle.check_contests.specs.Writes.{may_write, leave_unknown, unknown_where}
use Rattle.check_contests.specs.Sent.{expected_of_sent}
use Rattle.check_contests.specs.Contests.{Accepted, one_may_write, is_contested, due_beside, due_of, memory_accepting, entry_accepting, kept_accepting, kept_of}
use Rattle.check_contests.specs.Moments.{Course, asked_of, course_with, IsCarried}
use Rattle.check_contests.specs.Moments.Course.{Idle, Waiting}
use Rattle.check_contests.specs.Below.{AreAlone, IsMemoryBelow}
use Rattle.check_contests.proofs.AcceptedBytes.{IsFree, accepted_byte}
use Rattle.check_contests.proofs.Courses.{course-here, course-there, IsNew, asked_cases, waiting_cases, entry_of, none_kept}
use Rattle.check_contests.proofs.Effect.{with_cells, visible_in, visible_at}
use Rattle.check_contests.proofs.Expected.{beside_known}
use Rattle.check_contests.proofs.Kept.{none_of, kept-map, kept-other, kept-new}
use Rattle.check_contests.proofs.Sending.{cells_after_sent, after_sent_is, length-cells_after_sent, sent_small}

-- those kept are the requests that are there
abbrev pub Asks : List Accepted → (ℕ → Course) → Type 0
Asks kept course = (wide : ℕ)
    → option_map (λ (entry : Accepted). entry.ask) (kept_of kept wide) ≡ asked_of (course wide)

-- what none of those kept has, no request has that is there
pub none_there : (test : Request → Bool) (kept : List Accepted) (course : ℕ → Course) (other : ℕ) (ask : Request)
    → Asks kept course → list_any (λ (entry : Accepted). test entry.ask) kept ≡ false
    → asked_of (course other) ≡ Some ask → test ask ≡ false
none_there test kept course other ask asks none there =
    let entry = entry_of (kept_of kept other) ask (asks other ∙ there) in
    ap test (sym entry.2) ∙ none_of (λ (e : Accepted). test e.ask) kept other entry.0 none entry.1

-- ---- those kept then

pub same_wide : (slave : Slave) (ask : Request) (entry : Accepted) → (entry_accepting slave ask entry).wide ≡ entry.wide
same_wide (Memory memory) ask entry = refl
same_wide Device ask entry = refl

same_ask : (slave : Slave) (ask : Request) (entry : Accepted) → (entry_accepting slave ask entry).ask ≡ entry.ask
same_ask (Memory memory) ask entry = refl
same_ask Device ask entry = refl

abbrev pub new_entry : Slave → List Accepted → ℕ → ℕ → Sent → Accepted
new_entry slave kept wide index sent =
    record { wide = wide; ask = sent.ask; due = due_of slave kept sent; index = index }

pub none_then : (slave : Slave) (kept : List Accepted) (wide : ℕ) (ask : Request) → kept_of kept wide ≡ None
    → kept_of (map (entry_accepting slave ask) kept) wide ≡ None
none_then slave kept wide ask none =
    kept-map (entry_accepting slave ask) kept wide (same_wide slave ask) ∙ ap (option_map (entry_accepting slave ask)) none

pub kept_here : (slave : Slave) (kept : List Accepted) (wide index : ℕ) (sent : Sent) → kept_of kept wide ≡ None
    → kept_of (kept_accepting slave kept wide index sent) wide ≡ Some (new_entry slave kept wide index sent)
kept_here slave kept wide index sent none =
    kept-new (map (entry_accepting slave sent.ask) kept) (new_entry slave kept wide index sent) wide refl
    (none_then slave kept wide sent.ask none)

pub kept_there : (slave : Slave) (kept : List Accepted) (wide index : ℕ) (sent : Sent) (other : ℕ)
    → (other ≡ wide → ⊥)
    → kept_of (kept_accepting slave kept wide index sent) other
    ≡ option_map (entry_accepting slave sent.ask) (kept_of kept other)
kept_there slave kept wide index sent other apart =
    kept-other (map (entry_accepting slave sent.ask) kept) (new_entry slave kept wide index sent) other
    (λ same. apart (sym same))
    ∙ kept-map (entry_accepting slave sent.ask) kept other (same_wide slave sent.ask)

-- one that is kept then is the new one, or was kept
was_kept : (slave : Slave) (ask : Request) (kept : Option Accepted) (entry : Accepted)
    → option_map (entry_accepting slave ask) kept ≡ Some entry
    → (old : Accepted) × (kept ≡ Some old) × (entry_accepting slave ask old ≡ entry)
was_kept slave ask None entry is = cc
was_kept slave ask (Some old) entry is = (old, refl, some_same (entry_accepting slave ask old) is)
  where
    some_same : (e : Accepted) → Some e ≡ Some entry → e ≡ entry
    some_same e same = cc

abbrev pub IsOld : Slave → List Accepted → ℕ → Request → ℕ → Accepted → Type 0
IsOld slave kept wide ask other entry =
    (other ≡ wide → ⊥) × ((old : Accepted) × (kept_of kept other ≡ Some old) × (entry_accepting slave ask old ≡ entry))

abbrev pub IsNewEntry : Slave → List Accepted → ℕ → ℕ → Sent → ℕ → Accepted → Type 0
IsNewEntry slave kept wide index sent other entry =
    (other ≡ wide) × (new_entry slave kept wide index sent ≡ entry)

pub entry_cases : (slave : Slave) (kept : List Accepted) (wide index : ℕ) (sent : Sent) (other : ℕ) (entry : Accepted)
    → kept_of kept wide ≡ None → kept_of (kept_accepting slave kept wide index sent) other ≡ Some entry
    → IsNewEntry slave kept wide index sent other entry ⊎ IsOld slave kept wide sent.ask other entry
entry_cases slave kept wide index sent other entry none is = ⊎_elim
    (λ same. inl (
      same,
      some_same (new_entry slave kept wide index sent)
          (sym (kept_here slave kept wide index sent none)
          ∙ ap (kept_of (kept_accepting slave kept wide index sent)) (sym same) ∙ is),
    ))
    (λ apart. inr (
      apart,
      was_kept slave sent.ask (kept_of kept other) entry
          (sym (kept_there slave kept wide index sent other apart) ∙ is),
    ))
    (cases_eq other wide)
  where
    some_same : (e : Accepted) → Some e ≡ Some entry → e ≡ entry
    some_same e same = cc

old_asks : (slave : Slave) (ask : Request) (kept : Option Accepted)
    → option_map (λ (entry : Accepted). entry.ask) (option_map (entry_accepting slave ask) kept)
    ≡ option_map (λ (entry : Accepted). entry.ask) kept
old_asks slave ask None = refl
old_asks slave ask (Some entry) = ap (λ (x : Request). Some x) (same_ask slave ask entry)

pub asks_then : (slave : Slave) (kept : List Accepted) (course : ℕ → Course) (wide index : ℕ) (sent : Sent)
    → kept_of kept wide ≡ None → Asks kept course
    → Asks (kept_accepting slave kept wide index sent) (course_with course wide (Waiting sent))
asks_then slave kept course wide index sent none asks other = ⊎_elim
    (λ same. ap (λ w. option_map (λ (e : Accepted). e.ask) (kept_of (kept_accepting slave kept wide index sent) w)) same
    ∙ ap (option_map (λ (e : Accepted). e.ask)) (kept_here slave kept wide index sent none)
    ∙ sym (ap asked_of (ap (course_with course wide (Waiting sent)) same ∙ course-here course wide (Waiting sent))))
    (λ apart. ap (option_map (λ (e : Accepted). e.ask)) (kept_there slave kept wide index sent other apart)
    ∙ old_asks slave sent.ask (kept_of kept other) ∙ asks other
    ∙ sym (ap asked_of (course-there course wide (Waiting sent) other apart)))
    (cases_eq other wide)

-- ---- the memory then

-- nothing of it changes but its bytes
pub after_same : (truth : Partial) (ours : List (Option ℕ)) (kept : List Accepted) (sent : Sent)
    → memory_accepting (with_cells truth ours) kept sent
    ≡ with_cells truth (memory_accepting (with_cells truth ours) kept sent).cells
after_same truth ours kept sent =
    let rule : ℕ → Bool = is_contested (with_cells truth ours) kept sent.ask in
    ap (λ (m : Partial). record m { cells = unknown_where rule m.cells }) (after_sent_is (with_cells truth ours) sent)

-- the two memories before, and a request that is accepted
pub record Accepts (ours : List (Option ℕ)) (truth : Partial) (kept : List Accepted) (course : ℕ → Course) (wide : ℕ) (sent : Sent) : Type 0 where
  pub below : IsMemoryBelow (with_cells truth ours) truth kept course
  pub asks : Asks kept course
  pub idle : course wide ≡ Idle
  pub carried : IsCarried (Memory truth) sent.ask

pub within_ours : (ours : List (Option ℕ)) (truth : Partial) (kept : List Accepted) (course : ℕ → Course)
    → IsMemoryBelow (with_cells truth ours) truth kept course → AreWithin truth.ranges (length ours)
within_ours ours truth kept course below =
    let P : ℕ → Type 0 = λ n. AreWithin truth.ranges n in subst P (sym below.counted) below.within

free_at : (ours : List (Option ℕ)) (truth : Partial) (kept : List Accepted) (course : ℕ → Course) (wide : ℕ)
    (sent : Sent) (a : ℕ) → Accepts ours truth kept course wide sent
    → is_contested (with_cells truth ours) kept sent.ask a ≡ false
    → IsFree truth ours course wide sent a
free_at ours truth kept course wide sent a is free = record {
  idle = is.idle;
  lawful = is.carried.lawful;
  within = within_ours ours truth kept course is.below;
  counted = is.below.counted;
  bytes = is.below.our_bytes;
  known = is.below.known;
  free = λ other ask' there. none_there (λ x. leave_unknown truth sent.ask x a) kept course other ask' is.asks free there;
}

-- what is due to the new one
new_alone : (ours : List (Option ℕ)) (truth : Partial) (kept : List Accepted) (course : ℕ → Course) (wide : ℕ)
    (sent : Sent) → Accepts ours truth kept course wide sent → permits truth sent.ask ≡ true
    → AreAlone truth (course_with course wide (Waiting sent)) wide sent.ask (due_of (Memory (with_cells truth ours)) kept sent)
new_alone ours truth kept course wide sent is legal place byte known other ask' there apart = ⊎_elim
    (λ (new : IsNew wide other sent.ask ask'). absurd (apart new.0))
    (λ old. none_there (λ x. may_write truth x (start_of truth sent.ask + place)) kept course other ask' is.asks
    (beside_known truth sent.ask (one_may_write (with_cells truth ours) kept)
    (expected_of_sent (Memory (with_cells truth ours)) sent) place byte legal known).0 old.1)
    (asked_cases course wide sent other ask' there)

-- what is due to one that was kept
old_alone : (ours : List (Option ℕ)) (truth : Partial) (kept : List Accepted) (course : ℕ → Course) (wide : ℕ)
    (sent : Sent) (w : ℕ) (entry : Accepted) (old : Sent) → Accepts ours truth kept course wide sent
    → kept_of kept w ≡ Some entry → course w ≡ Waiting old → entry.ask ≡ old.ask → permits truth old.ask ≡ true
    → AreAlone truth (course_with course wide (Waiting sent)) w old.ask
    (entry_accepting (Memory (with_cells truth ours)) sent.ask entry).due
old_alone ours truth kept course wide sent w entry old is there waits same legal place byte known other ask' asked apart =
    let less : Request → Pattern = λ x. due_beside truth x (may_write truth sent.ask) entry.due in
    let known' : get_or (less old.ask).bytes place None ≡ Some byte =
    ap (λ (x : Request). get_or (less x).bytes place None) (sym same) ∙ known in
    let parts = beside_known truth old.ask (may_write truth sent.ask) entry.due place byte legal known' in
    ⊎_elim
    (λ (new : IsNew wide other sent.ask ask').
    let P : Request → Type 0 = λ x. may_write truth x (start_of truth old.ask + place) ≡ false in subst P new.1 parts.0)
    (λ before. is.below.dues w entry old there waits legal place byte parts.1 other ask' before.1 apart)
    (asked_cases course wide sent other ask' asked)

pub none_before : (kept : List Accepted) (course : ℕ → Course) (wide : ℕ) → Asks kept course → course wide ≡ Idle
    → kept_of kept wide ≡ None
none_before kept course wide asks idle = none_kept (kept_of kept wide) (asks wide ∙ ap asked_of idle)

dues_then : (ours : List (Option ℕ)) (truth : Partial) (kept : List Accepted) (course : ℕ → Course) (wide index : ℕ)
    (sent : Sent) → Accepts ours truth kept course wide sent
    → (w : ℕ) (entry : Accepted) (sent' : Sent)
    → kept_of (kept_accepting (Memory (with_cells truth ours)) kept wide index sent) w ≡ Some entry
    → course_with course wide (Waiting sent) w ≡ Waiting sent' → permits truth sent'.ask ≡ true
    → AreAlone truth (course_with course wide (Waiting sent)) w sent'.ask entry.due
dues_then ours truth kept course wide index sent is w entry sent' there waits legal =
    ⊎_elim
    (λ (new : IsNewEntry slave kept wide index sent w entry). ⊎_elim
    (λ (same : IsNew wide w sent sent').
    let P : ℕ → Request → Pattern → Type 0 = λ v x due. AreAlone truth course' v x due in
    let first : P wide sent.ask (due_of slave kept sent) =
    new_alone ours truth kept course wide sent is (ap (λ (x : Sent). permits truth x.ask) same.1 ∙ legal) in
    let second : P wide sent.ask entry.due =
    subst (λ (due : Pattern). P wide sent.ask due) (ap (λ (e : Accepted). e.due) new.1) first in
    let third : P w sent.ask entry.due = subst (λ (v : ℕ). P v sent.ask entry.due) (sym new.0) second in
    subst (λ (x : Sent). P w x.ask entry.due) same.1 third)
    (λ old. absurd (old.0 new.0))
    (waiting_cases course wide sent w sent' waits))
    (λ (old : IsOld slave kept wide sent.ask w entry). ⊎_elim
    (λ (same : IsNew wide w sent sent'). absurd (old.0 same.0))
    (λ before.
    let e = old.1.0 in
    let has : Some e.ask ≡ Some sent'.ask =
    ap (option_map (λ (x : Accepted). x.ask)) (sym old.1.1) ∙ is.asks w ∙ ap asked_of before.1 in
    let first : AreAlone truth course' w sent'.ask (entry_accepting slave sent.ask e).due =
    old_alone ours truth kept course wide sent w e sent' is old.1.1 before.1 (some_same e has) legal in
    subst (λ (x : Accepted). AreAlone truth course' w sent'.ask x.due) old.1.2 first)
    (waiting_cases course wide sent w sent' waits))
    (entry_cases slave kept wide index sent w entry (none_before kept course wide is.asks is.idle) there)
  where
    slave : Slave
    slave = Memory (with_cells truth ours)

    course' : ℕ → Course
    course' = course_with course wide (Waiting sent)

    some_same : (e : Accepted) → Some e.ask ≡ Some sent'.ask → e.ask ≡ sent'.ask
    some_same e same = cc

pub below_then : (ours : List (Option ℕ)) (truth : Partial) (kept : List Accepted) (course : ℕ → Course) (wide index : ℕ)
    (sent : Sent) → Accepts ours truth kept course wide sent
    → IsMemoryBelow (memory_accepting (with_cells truth ours) kept sent) truth
    (kept_accepting (Memory (with_cells truth ours)) kept wide index sent) (course_with course wide (Waiting sent))
below_then ours truth kept course wide index sent is = record {
  same = after_same truth ours kept sent;
  counted = length-unknown_where rule left
      ∙ length-cells_after_sent truth sent ours (within_ours ours truth kept course is.below) is.carried.lawful
      ∙ is.below.counted;
  within = is.below.within;
  bytes = is.below.bytes;
  our_bytes = λ clears a byte known. sent_small truth sent ours clears (within_ours ours truth kept course is.below)
      is.carried.lawful (is.below.our_bytes clears) (is.carried.bytes clears) a byte
      (known_then a byte known).1;
  carried = λ other ask' there. ⊎_elim
      (λ (new : IsNew wide other sent.ask ask'). subst (λ (x : Request). IsCarried (Memory truth) x) new.1 is.carried)
      (λ old. is.below.carried other ask' old.1)
      (asked_cases course wide sent other ask' there);
  known = λ a byte known. let parts = known_then a byte known in
      accepted_byte truth ours course wide sent a byte (free_at ours truth kept course wide sent a is parts.0) parts.1;
  dues = dues_then ours truth kept course wide index sent is;
}
  where
    rule : ℕ → Bool
    rule = is_contested (with_cells truth ours) kept sent.ask

    left : List (Option ℕ)
    left = cells_after_sent truth sent ours

    same : memory_accepting (with_cells truth ours) kept sent ≡ with_cells truth (unknown_where rule left)
    same = after_same truth ours kept sent

    -- a byte that is seen then is not contested, and is seen of what the request leaves
    known_then : (a byte : ℕ) → get_or (visible (memory_accepting (with_cells truth ours) kept sent)) a None ≡ Some byte
        → (rule a ≡ false) × (get_or (visible_in truth left) a None ≡ Some byte)
    known_then a byte known =
        let known' : get_or (visible_in truth (unknown_where rule left)) a None ≡ Some byte =
        ap (λ (m : Partial). get_or (visible m) a None) (sym same) ∙ known in
        let seen' = known_where (is_volatile truth) (unknown_where rule left) a byte known' in
        let parts = known_where rule left a byte seen'.1 in
        (parts.0, visible_at truth left a (Some byte) seen'.0 parts.1)
