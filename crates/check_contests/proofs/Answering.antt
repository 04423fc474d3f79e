-- What is kept says no more than the truth, once a request is answered, and what was due to it fits.
use Rattle.std.proofs.Common.{◌≡◌, ◌∙◌, ⊎_elim, ℕ, List, Some, None, sym, ap, subst}
use Rattle.check_cells.specs.Sent.{Sent}
use Rattle.check_memory.specs.Partial.{Partial}
use Rattle.std.specs.Prelude.{option_map}
use Rattle.std.proofs.lemmas.Bool.{cases_eq}
use Rattle.tl_types.specs.Request.{Request}
use Rattle.check_memory.specs.Pattern.{Pattern, FitsPattern}
use Rattle.check_memory.specs.declared.slave.Slave.{Slave}
use Rattle.check_memory.specs.declared.slave.Slave.TheVariants.{Memory, Device}
use Rattle.check_contests.specs.Contests.{Accepted, kept_of, kept_answering}
use Rattle.check_contests.specs.Moments.{Course, asked_of, Truth, course_with, truth_answering}
use Rattle.check_contests.specs.Moments.Course.{Idle, Waiting, Served}
use Rattle.check_contests.specs.Below.{DueFits, IsMemoryBelow, IsSlaveBelow, IsBelowTruth}
use Rattle.check_contests.proofs.Courses.{course-here, course-there, entry_of}
use Rattle.check_contests.proofs.Kept.{answering-other, answering-same, apart-answering}

-- one that is there then was there before, and is another one
asked_before : (course : ℕ → Course) (wide other : ℕ) (ask : Request)
    → asked_of (course_with course wide Idle other) ≡ Some ask
    → (other ≡ wide → ⊥) × (asked_of (course other) ≡ Some ask)
asked_before course wide other ask is = ⊎_elim
    (λ (same : other ≡ wide). absurd (none_asked
    (sym (ap asked_of (ap (course_with course wide Idle) same ∙ course-here course wide Idle)) ∙ is)))
    (λ apart. (apart, sym (ap asked_of (course-there course wide Idle other apart)) ∙ is))
    (cases_eq other wide)
  where
    none_asked : None ≡ Some ask → ⊥
    none_asked e = cc

waited_before : (course : ℕ → Course) (wide other : ℕ) (sent : Sent)
    → course_with course wide Idle other ≡ Waiting sent
    → (other ≡ wide → ⊥) × (course other ≡ Waiting sent)
waited_before course wide other sent is = ⊎_elim
    (λ (same : other ≡ wide). absurd (idle_waits
    (sym (ap (course_with course wide Idle) same ∙ course-here course wide Idle) ∙ is)))
    (λ apart. (apart, sym (course-there course wide Idle other apart) ∙ is))
    (cases_eq other wide)
  where
    idle_waits : Idle ≡ Waiting sent → ⊥
    idle_waits e = cc

memory_then : (ours truth : Partial) (kept : List Accepted) (course : ℕ → Course)
    (wide : ℕ) (sent : Sent) (reply : Pattern) → course wide ≡ Served sent reply → IsMemoryBelow ours truth kept course
    → IsMemoryBelow ours truth (kept_answering kept wide) (course_with course wide Idle)
memory_then ours truth kept course wide sent reply served is = record {
  same = is.same;
  counted = is.counted;
  within = is.within;
  bytes = is.bytes;
  our_bytes = is.our_bytes;
  carried = λ other ask' there. is.carried other ask' (asked_before course wide other ask' there).1;
  known = λ a byte known.
      let right = is.known a byte known in
      record {
        alone = λ w ask' here may other ask'' there apart.
            right.alone w ask' (asked_before course wide w ask' here).1 may other ask''
            (asked_before course wide other ask'' there).1 apart;
        to_come = λ w sent' waits may. right.to_come w sent' (waited_before course wide w sent' waits).1 may;
        combined = λ w sent' waits may atomic place here other ask'' there apart.
            right.combined w sent' (waited_before course wide w sent' waits).1 may atomic place here other ask''
            (asked_before course wide other ask'' there).1 apart;
        there = λ none. right.there (λ w sent' waits.
            none w sent' (course-there course wide Idle w (not_served w sent' waits) ∙ waits));
      };
  dues = λ w entry sent' there waits legal place byte known other ask'' asked apart.
      let before = waited_before course wide w sent' waits in
      is.dues w entry sent' (sym (answering-other kept wide w before.0) ∙ there) before.1 legal place byte known other
      ask'' (asked_before course wide other ask'' asked).1 apart;
}
  where
    not_served : (w : ℕ) (sent' : Sent) → course w ≡ Waiting sent' → w ≡ wide → ⊥
    not_served w sent' waits same = let e : Served sent reply ≡ Waiting sent' = sym served ∙ ap course (sym same) ∙ waits in cc

slave_then : (ours truth : Slave) (kept : List Accepted) (course : ℕ → Course)
    (wide : ℕ) (sent : Sent) (reply : Pattern) → course wide ≡ Served sent reply → IsSlaveBelow ours truth kept course
    → IsSlaveBelow ours truth (kept_answering kept wide) (course_with course wide Idle)
slave_then (Memory ours) (Memory truth) kept course wide sent reply served is =
    memory_then ours truth kept course wide sent reply served is
slave_then (Memory ours) Device kept course wide sent reply served is = is
slave_then Device (Memory truth) kept course wide sent reply served is = is
slave_then Device Device kept course wide sent reply served is = tt

pub answering_keeps : (ours : Slave) (kept : List Accepted) (truth : Truth) (wide : ℕ) (sent : Sent) (reply : Pattern)
    → IsBelowTruth ours kept truth → truth.course wide ≡ Served sent reply
    → IsBelowTruth ours (kept_answering kept wide) (truth_answering truth wide)
answering_keeps ours kept truth wide sent reply is served = record {
  apart = apart-answering kept wide is.apart;
  asks = λ w. ⊎_elim
      (λ (same : w ≡ wide).
      ap (λ v. option_map (λ (e : Accepted). e.ask) (kept_of (kept_answering kept wide) v)) same
      ∙ ap (option_map (λ (e : Accepted). e.ask)) (answering-same kept wide is.apart)
      ∙ sym (ap asked_of (ap (course_with truth.course wide Idle) same ∙ course-here truth.course wide Idle)))
      (λ apart. ap (option_map (λ (e : Accepted). e.ask)) (answering-other kept wide w apart) ∙ is.asks w
      ∙ sym (ap asked_of (course-there truth.course wide Idle w apart)))
      (cases_eq w wide);
  fits = λ w entry there. ⊎_elim
      (λ (same : w ≡ wide). absurd (none_some entry
      (sym (ap (kept_of (kept_answering kept wide)) same ∙ answering-same kept wide is.apart) ∙ there)))
      (λ (apart : w ≡ wide → ⊥). subst (λ (c : Course). DueFits truth.slave entry.due c)
      (sym (course-there truth.course wide Idle w apart))
      (is.fits w entry (sym (answering-other kept wide w apart) ∙ there)))
      (cases_eq w wide);
  slave = slave_then ours truth.slave kept truth.course wide sent reply served is.slave;
}
  where
    none_some : (entry : Accepted) → None ≡ Some entry → ⊥
    none_some entry e = cc

-- the one that is answered is kept, and what is due to it fits what was expected as it took effect
pub answer_fits : (ours : Slave) (kept : List Accepted) (truth : Truth) (wide : ℕ) (sent : Sent) (reply : Pattern)
    → IsBelowTruth ours kept truth → truth.course wide ≡ Served sent reply
    → (entry : Accepted) × (kept_of kept wide ≡ Some entry) × (entry.ask ≡ sent.ask) × FitsPattern entry.due reply
answer_fits ours kept truth wide sent reply is served =
    let entry = entry_of (kept_of kept wide) sent.ask (is.asks wide ∙ ap asked_of served) in (
      entry.0,
      entry.1,
      entry.2,
      subst (λ (c : Course). DueFits truth.slave entry.0.due c) served (is.fits wide entry.0 entry.1),
    )
