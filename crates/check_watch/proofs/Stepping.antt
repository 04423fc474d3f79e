-- What follows of what a call answers, and what a judge answers to a beat that is not lawful.
use Rattle.std.specs.Prelude.{None, Result, Ok, Err, IfOk, OnErr}
use Rattle.check_watch.specs.declared.fault.Fault.{Fault}
use Rattle.check_watch.specs.declared.fault.StepError.TheVariants.{Unlawful}
use Rattle.check_watch.specs.declared.seen.Seen.{Seen}
use Rattle.check_watch.specs.Steps.{IsStepBy, IsTakeBy}

pub if_ok : {T E : Type 0} {P Q : T → Type 0} (r : Result T E) → ((x : T) → P x → Q x) → IfOk r P → IfOk r Q
if_ok (Ok x) to holds = to x holds
if_ok (Err e) to holds = tt

pub on_err : {T E : Type 0} {P Q : Type 0} (r : Result T E) → (P → Q) → OnErr r P → OnErr r Q
on_err (Ok x) to holds = tt
on_err (Err e) to holds = to holds

module _ (Lawful Kept : Type 0) (ends : Seen) (IsFirst : Fault → Type 0) (MayNeed : Type 0) where
  pub unlawful_step : (fault : Fault) → (Lawful → ⊥) → IsFirst fault
      → IsStepBy Lawful Kept ends IsFirst MayNeed (Err (Unlawful fault))
  unlawful_step fault unlawful first = record {
    lawful = λ other. (λ ok. absurd (cc), λ is. absurd (unlawful is));
    keeps = tt;
    seen = tt;
    fault = first;
    memory = λ is. absurd (cc);
    needed = λ is. absurd (cc);
  }

module _ {E : Type 0} (Lawful Kept : Type 0) (ends : Seen) (MayNeed : Type 0) where
  pub unlawful_take : (Lawful → ⊥) → IsTakeBy {E = E} Lawful Kept ends MayNeed (Ok None)
  unlawful_take unlawful = record {
    lawful = (λ some. absurd (cc), λ is. absurd (unlawful is));
    keeps = tt;
    ended = tt;
    memory = tt;
    needed = tt;
  }
