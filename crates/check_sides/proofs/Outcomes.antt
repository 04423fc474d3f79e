-- What follows of what a call answers.
use Rattle.std.specs.Prelude.{Option, Some, None, Result, IfNone, IfSome, OnSome}
use Rattle.check_watch.specs.declared.fault.Fault.{Fault}
use Rattle.check_watch.specs.declared.fault.StepError.{StepError}
use Rattle.check_watch.specs.declared.seen.Ended.{Ended}
use Rattle.check_watch.specs.declared.seen.Seen.{Seen}
use Rattle.check_watch.specs.Steps.{IsStepBy, IsTakeBy}
use Rattle.check_watch.proofs.Keeping.{on_ok}
use Rattle.check_watch.proofs.Stepping.{if_ok, on_err}

pub on_some : {X : Type 0} {P Q : Type 0} (o : Option X) → (P → Q) → OnSome o P → OnSome o Q
on_some (Some x) to holds = to holds
on_some None to holds = tt

pub if_some : {X : Type 0} {P Q : X → Type 0} (o : Option X) → ((x : X) → P x → Q x) → IfSome o P → IfSome o Q
if_some (Some x) to holds = to x holds
if_some None to holds = tt

pub if_none : {X : Type 0} {P Q : Type 0} (o : Option X) → (P → Q) → IfNone o P → IfNone o Q
if_none (Some x) to holds = tt
if_none None to holds = to holds

-- ---- a step, and a take, said of other lists

module _ {Lawful Kept Need Right Keeps Wants : Type 0} (ends : Seen) (to : Lawful → Right) (back : Right → Lawful)
    (keeps : Kept → Keeps) (wants : Need → Wants) where
  pub step_as : (IsFirst : Fault → Type 0) (r : Result Seen StepError) → IsStepBy Lawful Kept ends IsFirst Need r
      → IsStepBy Right Keeps ends IsFirst Wants r
  step_as IsFirst r is = record {
    lawful = λ other. let iff = is.lawful other in (λ ok. to (iff.0 ok), λ right. iff.1 (back right));
    keeps = on_ok r keeps is.keeps;
    seen = is.seen;
    fault = is.fault;
    memory = λ refused. to (is.memory refused);
    needed = λ refused. wants (is.needed refused);
  }

  pub take_as : {E : Type 0} (r : Result (Option Ended) E) → IsTakeBy Lawful Kept ends Need r
      → IsTakeBy Right Keeps ends Wants r
  take_as r is = record {
    lawful = if_ok r (λ (end : Option Ended) iff. (λ some. to (iff.0 some), λ right. iff.1 (back right))) is.lawful;
    keeps = if_ok r (λ (end : Option Ended) kept. on_some end keeps kept) is.keeps;
    ended = is.ended;
    memory = on_err r to is.memory;
    needed = on_err r wants is.needed;
  }
