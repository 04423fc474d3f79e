-- What a fault says of a result.
use Rattle.std.proofs.Common.{◌≡◌, ◌≢◌, ℕ, Bool, List, Option, Result, Ok, Err, IfErr, IfOk, inl, inr, sym, subst}
use Rattle.std.specs.Io.KnownBytes.{Appends}
use Rattle.std.specs.Result.{IsErrAnd}
use Rattle.check_keys.specs.declared.fault.SystemFault.{SystemFault}
use Rattle.check_keys.specs.declared.fault.SystemFault.TheVariants as system
use Rattle.check_description.specs.Description.{Description}
use Rattle.check_description.specs.File.{Parts}
use Rattle.check_start.specs.Start.{system_names}
use Rattle.check_start.specs.declared.start.Terms.{Terms}
use Rattle.check_text.specs.declared.fault.CaptureFault.{CaptureFault}
use Rattle.check_text.specs.declared.fault.CaptureFault.TheVariants as stop
use Rattle.check_text.specs.declared.fault.Verdict.{Verdict}
use Rattle.check_program.specs.Engine.{GivenParts, HasVerdict, IsChecked, IsFaulty, IsLineFault, IsStopped, IsUnprepared, is_lawful, line_of}
use Rattle.check_program.specs.Fault.{of_capture, of_system}
use Rattle.check_program.specs.declared.fault.CheckFault.{CheckFault}
use Rattle.check_program.specs.declared.fault.CheckFault.TheVariants as check
use Rattle.check_program.specs.declared.asked.Asked.{Asked}

pub checked_by : (asked : Asked) (given : GivenParts) (old new : Option (List ℕ)) (result : Result Bool CheckFault)
    (fault : CheckFault)
    → IsErrAnd result (λ e. e ≡ fault) → IsFaulty asked given old new fault → IsChecked asked given old new result
checked_by asked given old new (Ok lawful) fault is faulty = absurd is
checked_by asked given old new (Err e) fault is faulty =
    record { ok = tt; fault = subst (IsFaulty asked given old new) (sym is) faulty }

pub of_stopped : (asked : Asked) (given : GivenParts) (old new : Option (List ℕ)) (fault : CaptureFault)
    → IsStopped asked given old new fault → IsFaulty asked given old new (of_capture fault)
of_stopped asked given old new (stop.Header line) stopped = stopped
of_stopped asked given old new (stop.TooLong line) stopped = stopped
of_stopped asked given old new (stop.Row line why) stopped = stopped
of_stopped asked given old new stop.Read stopped = stopped
of_stopped asked given old new stop.Memory stopped = inr (inl stopped)
of_stopped asked given old new stop.Write stopped = inl stopped

-- ---- what is said of a result with a fault

pub if_err : {X : Type 0} (P : CheckFault → Type 0) (result : Result X CheckFault) (fault : CheckFault)
    → IsErrAnd result (λ e. e ≡ fault) → P fault → IfErr result P
if_err P (Ok x) fault is holds = tt
if_err P (Err e) fault is holds = subst P (sym is) holds

pub not_ok : {X : Type 0} (P : X → Type 0) (result : Result X CheckFault) (fault : CheckFault)
    → IsErrAnd result (λ e. e ≡ fault) → IfOk result P
not_ok P (Ok x) fault is = absurd is
not_ok P (Err e) fault is = tt

-- ---- the steps of a check

-- the fault of a system is told as it is, or memory was wanted
pub unprepared_by : (terms : Terms) (parts : Parts) (images : List (List ℕ)) (fault : SystemFault)
    → (fault ≢ system.Memory → IsUnprepared terms parts images (check.System fault))
    → IsUnprepared terms parts images (of_system fault)
unprepared_by terms parts images system.Memory first = tt
unprepared_by terms parts images fault first = first (λ is. cc is)

module _ (asked : Asked) (given : GivenParts) (old told new : Option (List ℕ)) (system : Description) (verdict : Verdict)
    (has : HasVerdict asked given old told system verdict) where
  -- a verdict whose line was not written
  untold : (fault : CheckFault) → IsLineFault told new (line_of asked.complete (system_names system) verdict) fault
      → IsFaulty asked given old new fault
  untold (check.System fault) is = absurd is
  untold (check.Capture fault) is = absurd is
  untold (check.Keys fault) is = absurd is
  untold (check.Unnamed link) is = absurd is
  untold (check.Dump fault) is = absurd is
  untold check.Read is = absurd is
  untold check.Write is =
      inr (record { system = system; verdict = verdict; told = told; has = has; line = is })
  untold check.Memory is =
      inr (inr (record { system = system; verdict = verdict; told = told; has = has; line = is }))

  -- a verdict, and what became of its line
  pub told_checked : (line : List ℕ) (result : Result Bool CheckFault) → line ≡ line_of asked.complete (system_names system) verdict
      → IfOk result (λ lawful. lawful ≡ is_lawful asked.complete verdict) → IfOk result (λ lawful. Appends told new line)
      → IfErr result (IsLineFault told new line) → IsChecked asked given old new result
  told_checked line (Ok lawful) same answered written fault = record {
    ok = record {
      system = system;
      verdict = verdict;
      told = told;
      has = has;
      answered = answered;
      written = subst (λ (l : List ℕ). Appends told new l) same written;
    };
    fault = tt;
  }
  told_checked line (Err e) same answered written fault =
      record { ok = tt; fault = untold e (subst (λ (l : List ℕ). IsLineFault told new l e) same fault) }
