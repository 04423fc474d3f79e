-- What is kept says no more than the truth at reset, and so over whole runs.
use Rattle.std.proofs.Common.{◌≡◌, ◌∙◌, ℕ, List, [], ◌∷◌, Some, None, refl, sym}
use Rattle.tl_types.specs.Request.{Request}
use Rattle.check_cells.specs.Sent.{Sent}
use Rattle.check_memory.specs.Partial.{Partial, is_volatile}
use Rattle.check_memory.specs.Pattern.{Pattern}
use Rattle.check_memory.specs.declared.slave.Slave.{Slave}
use Rattle.check_memory.specs.declared.slave.Slave.TheVariants.{Memory, Device}
use Rattle.check_memory.proofs.Unknown.{length-unknown_where}
use Rattle.check_contests.specs.Contests.{Accepted}
use Rattle.check_contests.specs.Moments.{SlaveMoment, Course, Truth, untouched, truth_taking, truth_after, IsWaiting, IsServedCourse, MayAllCome}
use Rattle.check_contests.specs.Moments.SlaveMoment.{Accepts, TakesEffect, Answers}
use Rattle.check_contests.specs.Moments.Course.{Idle, Waiting, Served}
use Rattle.check_contests.specs.Below.{IsMemoryBelow, IsSlaveBelow, IsBelowTruth}
use Rattle.check_contests.specs.Laws.{IsMemoryAtReset, IsBelowAtReset, IsDueBelow, Judged, judged_after, IsAnswerBelow, AreAllBelow}
use Rattle.check_contests.proofs.AcceptedSlave.{accepting_keeps}
use Rattle.check_contests.proofs.Serving.{serving_keeps}
use Rattle.check_contests.proofs.Answering.{answering_keeps, answer_fits}

-- ---- at reset

none_asked : (ask : Request) {A : Type 0} → None ≡ Some ask → A
none_asked ask e = cc

none_waits : (sent : Sent) {A : Type 0} → Idle ≡ Waiting sent → A
none_waits sent e = cc

none_kept : (entry : Accepted) {A : Type 0} → None ≡ Some entry → A
none_kept entry e = cc

memory_at_reset : (ours truth : Partial) → IsMemoryAtReset ours truth → IsMemoryBelow ours truth [] (λ _. Idle)
memory_at_reset ours truth is = record {
  same = is.same;
  counted = sym (length-unknown_where (is_volatile ours) ours.cells) ∙ sym is.below.counted
      ∙ length-unknown_where (is_volatile truth) truth.cells;
  within = is.within;
  bytes = is.bytes;
  our_bytes = λ clears a byte known. is.bytes clears a byte (is.below.kept a byte known);
  carried = λ wide ask there. none_asked ask there;
  known = λ a byte known. record {
    alone = λ wide ask there may. none_asked ask there;
    to_come = λ wide sent waits may. none_waits sent waits;
    combined = λ wide sent waits may. none_waits sent waits;
    there = λ none. is.below.kept a byte known;
  };
  dues = λ wide entry sent there waits. none_waits sent waits;
}

slave_at_reset : (ours truth : Slave) → IsBelowAtReset ours truth → IsSlaveBelow ours truth [] (λ _. Idle)
slave_at_reset (Memory ours) (Memory truth) is = memory_at_reset ours truth is
slave_at_reset (Memory ours) Device is = is
slave_at_reset Device (Memory truth) is = is
slave_at_reset Device Device is = tt

pub reset_is_below : (ours truth : Slave) → IsBelowAtReset ours truth → IsBelowTruth ours [] (untouched truth)
reset_is_below ours truth is = record {
  apart = tt;
  asks = λ wide. refl;
  fits = λ wide entry there. tt;
  slave = slave_at_reset ours truth is;
}

-- ---- runs

pub answer_is_due : (ours : Slave) (kept : List Accepted) (truth : Truth) (wide : ℕ) (sent : Sent) (reply : Pattern)
    → IsBelowTruth ours kept truth → truth.course wide ≡ Served sent reply → IsDueBelow kept wide sent.ask reply
answer_is_due ours kept truth wide sent reply is served =
    let due = answer_fits ours kept truth wide sent reply is served in
    record { entry = due.0; kept_as = due.1; ask_is = due.2; fits = due.3 }

taking_keeps : (judged : Judged) (truth : Truth) (wide : ℕ) (course : Course) → truth.course wide ≡ course
    → IsWaiting course → IsBelowTruth judged.slave judged.kept truth
    → IsBelowTruth judged.slave judged.kept (truth_taking truth wide course)
taking_keeps judged truth wide Idle at waits is = absurd waits
taking_keeps judged truth wide (Waiting sent) at waits is =
    serving_keeps judged.slave judged.kept truth wide sent is at
taking_keeps judged truth wide (Served sent reply) at waits is = absurd waits

answered_keeps : (judged : Judged) (truth : Truth) (wide : ℕ) (course : Course) → truth.course wide ≡ course
    → IsServedCourse course → IsBelowTruth judged.slave judged.kept truth
    → IsAnswerBelow judged wide course
    × IsBelowTruth judged.slave (judged_after judged (Answers wide)).kept (truth_after truth (Answers wide))
answered_keeps judged truth wide Idle at served is = absurd served
answered_keeps judged truth wide (Waiting sent) at served is = absurd served
answered_keeps judged truth wide (Served sent reply) at served is = (
  answer_is_due judged.slave judged.kept truth wide sent reply is at,
  answering_keeps judged.slave judged.kept truth wide sent reply is at,
)

pub all_below : (judged : Judged) (truth : Truth) (moments : List SlaveMoment) → IsBelowTruth judged.slave judged.kept truth
    → MayAllCome truth moments → AreAllBelow judged truth moments
all_below judged truth [] is may = tt
all_below judged truth (Accepts wide sent ∷ moments) is may = (
  tt,
  all_below (judged_after judged (Accepts wide sent)) (truth_after truth (Accepts wide sent)) moments
      (accepting_keeps judged.slave judged.kept truth wide judged.served sent is may.0.0 may.0.1) may.1,
)
all_below judged truth (TakesEffect wide ∷ moments) is may = (
  tt,
  all_below judged (truth_after truth (TakesEffect wide)) moments
      (taking_keeps judged truth wide (truth.course wide) refl may.0 is) may.1,
)
all_below judged truth (Answers wide ∷ moments) is may =
    let both = answered_keeps judged truth wide (truth.course wide) refl may.0 is in (
      both.0,
      all_below (judged_after judged (Answers wide)) (truth_after truth (Answers wide)) moments both.1 may.1,
    )

pub any_order_is_below : (ours truth : Slave) (moments : List SlaveMoment) → IsBelowAtReset ours truth
    → MayAllCome (untouched truth) moments
    → AreAllBelow (record { slave = ours; kept = []; served = 0 }) (untouched truth) moments
any_order_is_below ours truth moments is may =
    all_below (record { slave = ours; kept = []; served = 0 }) (untouched truth) moments (reset_is_below ours truth is) may
