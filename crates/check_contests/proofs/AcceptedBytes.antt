-- A byte that is known once a request is accepted is known rightly.
use Rattle.std.proofs.Common.{◌≡◌, ◌∙◌, ⊎_elim, ℕ, Bool, true, false, List, length, get_or, Option, Some, None, refl, sym, ap, subst}
use Rattle.tl_types.specs.Request.{Request}
use Rattle.tl_ops.specs.declared.kind.Kind.TheVariants.{ClearRegs}
use Rattle.check_cells.specs.Sent.{Sent}
use Rattle.check_memory.specs.Cells.{is_atomic}
use Rattle.check_memory.specs.Laws.{IsLawfulAsk}
use Rattle.check_memory.specs.Partial.{Partial, visible, AreWithin}
use Rattle.check_contests.specs.Writes.{may_write, leave_unknown}
use Rattle.check_contests.specs.Sent.{memory_after_sent}
use Rattle.check_contests.specs.Moments.{Course, asked_of, course_with, AreBytes}
use Rattle.check_contests.specs.Moments.Course.{Idle, Waiting}
use Rattle.check_contests.specs.Below.{IsKnownRightly}
use Rattle.check_contests.proofs.Clash.{not_both, apart_at, apart_by_ours, apart_by_other}
use Rattle.check_contests.proofs.Courses.{course-here, course-there, IsNew, asked_cases, waiting_cases}
use Rattle.check_contests.proofs.Effect.{visible_in, Matters}
use Rattle.check_contests.proofs.Sending.{cells_after_sent, after_sent_seen, sent_stays, sent_more}

-- a request is accepted, and a byte is not contested
pub record IsFree (truth : Partial) (ours : List (Option ℕ)) (course : ℕ → Course) (wide : ℕ) (sent : Sent) (a : ℕ) : Type 0 where
  pub idle : course wide ≡ Idle
  pub lawful : IsLawfulAsk sent.ask
  pub within : AreWithin truth.ranges (length ours)
  pub counted : length ours ≡ length truth.cells
  pub bytes : truth.kind ≡ ClearRegs → AreBytes (visible_in truth ours)
  pub known : (b byte : ℕ) → get_or (visible_in truth ours) b None ≡ Some byte → IsKnownRightly truth course b byte
  pub free : (other : ℕ) (ask' : Request) → asked_of (course other) ≡ Some ask'
      → leave_unknown truth sent.ask ask' a ≡ false

waits_asked : (course : ℕ → Course) (other : ℕ) (sent : Sent) → course other ≡ Waiting sent
    → asked_of (course other) ≡ Some sent.ask
waits_asked course other sent is = ap asked_of is

-- the request may write it
written : (truth : Partial) (ours : List (Option ℕ)) (course : ℕ → Course) (wide : ℕ) (sent : Sent) (a byte : ℕ)
    → IsFree truth ours course wide sent a → may_write truth sent.ask a ≡ true
    → get_or (visible_in truth (cells_after_sent truth sent ours)) a None ≡ Some byte
    → IsKnownRightly truth (course_with course wide (Waiting sent)) a byte
written truth ours course wide sent a byte is may left = record {
  alone = λ w ask' here may' other ask'' there apart. ⊎_elim
      (λ new. ⊎_elim
      (λ (same : IsNew wide w sent.ask ask'). absurd (apart (new.0 ∙ sym same.0)))
      (λ old. not_both may' (no_other w ask' old.1))
      (asked_cases course wide sent w ask' here))
      (λ old. no_other other ask'' old.1)
      (asked_cases course wide sent other ask'' there);
  to_come = λ w sent' waits may'. ⊎_elim
      (λ (new : IsNew wide w sent sent').
      let P : Sent → Type 0 = λ x. get_or (visible (memory_after_sent truth x)) a None ≡ Some byte in
      subst P new.1 (after_sent_seen truth sent a ∙ ours_then_true))
      (λ old. not_both may' (no_other w sent'.ask (waits_asked course w sent' old.1)))
      (waiting_cases course wide sent w sent' waits);
  combined = λ w sent' waits may' atomic place here other ask'' there apart. ⊎_elim
      (λ (new : IsNew wide w sent sent'). ⊎_elim
      (λ (same : IsNew wide other sent.ask ask''). absurd (apart (same.0 ∙ sym new.0)))
      (λ old.
      let P : Sent → Type 0 = λ x. is_atomic x.ask.op ≡ true in
      let Q : Sent → Type 0 = λ x. may_write truth x.ask place ≡ true in
      apart_by_ours truth sent.ask ask'' a (is.free other ask'' old.1) (subst P (sym new.1) atomic) may place
      (subst Q (sym new.1) here))
      (asked_cases course wide sent other ask'' there))
      (λ old. not_both may' (no_other w sent'.ask (waits_asked course w sent' old.1)))
      (waiting_cases course wide sent w sent' waits);
  there = λ none. not_both may (none wide sent (course-here course wide (Waiting sent)));
}
  where
    no_other : (other : ℕ) (ask' : Request) → asked_of (course other) ≡ Some ask' → may_write truth ask' a ≡ false
    no_other other ask' there = apart_at truth sent.ask ask' a (is.free other ask' there) may

    -- no other may write a byte that matters
    none_at : (atomic : Bool) (place : ℕ) → is_atomic sent.ask.op ≡ atomic → Matters truth sent.ask a place
        → (other : ℕ) (ask' : Request) → asked_of (course other) ≡ Some ask' → may_write truth ask' place ≡ false
    none_at true place atomic matters other ask' there =
        apart_by_ours truth sent.ask ask' a (is.free other ask' there) atomic may place matters.0
    none_at false place atomic matters other ask' there =
        let P : ℕ → Type 0 = λ n. may_write truth ask' n ≡ false in
        subst P (sym (matters.1 atomic)) (no_other other ask' there)

    ours_then_true : get_or (visible_in truth (cells_after_sent truth sent truth.cells)) a None ≡ Some byte
    ours_then_true = sent_more truth sent ours truth.cells a byte is.within is.counted is.lawful may
        (λ place b matters known. (is.known place b known).there
        (λ other sent' waits. none_at (is_atomic sent.ask.op) place refl matters other sent'.ask
        (waits_asked course other sent' waits)))
        left

-- the request may not write it
unwritten : (truth : Partial) (ours : List (Option ℕ)) (course : ℕ → Course) (wide : ℕ) (sent : Sent) (a byte : ℕ)
    → IsFree truth ours course wide sent a → may_write truth sent.ask a ≡ false
    → get_or (visible_in truth ours) a None ≡ Some byte
    → IsKnownRightly truth (course_with course wide (Waiting sent)) a byte
unwritten truth ours course wide sent a byte is may left = record {
  alone = λ w ask' here may' other ask'' there apart. ⊎_elim
      (λ (new : IsNew wide w sent.ask ask'). not_new ask' new.1 may')
      (λ old. ⊎_elim
      (λ (new : IsNew wide other sent.ask ask'').
      let P : Request → Type 0 = λ x. may_write truth x a ≡ false in subst P new.1 may)
      (λ old'. right.alone w ask' old.1 may' other ask'' old'.1 apart)
      (asked_cases course wide sent other ask'' there))
      (asked_cases course wide sent w ask' here);
  to_come = λ w sent' waits may'. ⊎_elim
      (λ (new : IsNew wide w sent sent'). not_new sent'.ask (same_ask new.1) may')
      (λ old. right.to_come w sent' old.1 may')
      (waiting_cases course wide sent w sent' waits);
  combined = λ w sent' waits may' atomic place here other ask'' there apart. ⊎_elim
      (λ (new : IsNew wide w sent sent'). not_new sent'.ask (same_ask new.1) may')
      (λ old. ⊎_elim
      (λ (new : IsNew wide other sent.ask ask'').
      let P : Request → Type 0 = λ x. may_write truth x place ≡ false in
      subst P new.1 (apart_by_other truth sent.ask sent'.ask a (is.free w sent'.ask (waits_asked course w sent' old.1))
      atomic may' place here))
      (λ old'. right.combined w sent' old.1 may' atomic place here other ask'' old'.1 apart)
      (asked_cases course wide sent other ask'' there))
      (waiting_cases course wide sent w sent' waits);
  there = λ none. right.there (λ w sent' waits. none w sent' (course-there course wide (Waiting sent) w
      (not_idle w sent' waits) ∙ waits));
}
  where
    right : IsKnownRightly truth course a byte
    right = is.known a byte left

    same_ask : {one other : Sent} → one ≡ other → one.ask ≡ other.ask
    same_ask same = ap (λ (x : Sent). x.ask) same

    not_new : {A : Type 0} (ask' : Request) → sent.ask ≡ ask' → may_write truth ask' a ≡ true → A
    not_new ask' same may' =
        let P : Request → Type 0 = λ x. may_write truth x a ≡ true in not_both (subst P (sym same) may') may

    not_idle : (w : ℕ) (sent' : Sent) → course w ≡ Waiting sent' → w ≡ wide → ⊥
    not_idle w sent' waits same = let e : Idle ≡ Waiting sent' = sym is.idle ∙ ap course (sym same) ∙ waits in cc

pub accepted_byte : (truth : Partial) (ours : List (Option ℕ)) (course : ℕ → Course) (wide : ℕ) (sent : Sent)
    (a byte : ℕ) → IsFree truth ours course wide sent a
    → get_or (visible_in truth (cells_after_sent truth sent ours)) a None ≡ Some byte
    → IsKnownRightly truth (course_with course wide (Waiting sent)) a byte
accepted_byte truth ours course wide sent a byte is left = by_cases (may_write truth sent.ask a) refl
  where
    by_cases : (may : Bool) → may_write truth sent.ask a ≡ may
        → IsKnownRightly truth (course_with course wide (Waiting sent)) a byte
    by_cases true may = written truth ours course wide sent a byte is may left
    by_cases false may = unwritten truth ours course wide sent a byte is may
        (sym (sent_stays truth sent ours a is.within is.lawful (λ clears b known. is.bytes clears a b known) may) ∙ left)
