-- What holds of each error holds of a result's; what is told of an audit's fault, and of want of memory.
use Rattle.std.proofs.Common.{◌≡◌, ◌≢◌, ◌∙◌, ℕ, ◌+◌, List, Option, Result, Ok, Err, IfErr, sym}
use Rattle.std.proofs.KnownBytes.{Keeps-refl}
use Rattle.std.specs.Result.{IsErrAnd}
use Rattle.tl_audit.specs.declared.fault.AuditFault.{AuditFault}
use Rattle.tl_audit.specs.declared.fault.AuditFault.TheVariants.{Missing, Twice, Order, Untraced, Memory}
use Rattle.tl_script.specs.System.{System}
use Rattle.tl_script.specs.declared.script.TheConstants.{MAX_SCRIPT}
use Rattle.tl_streams.specs.Streams.{TakesUpTo}
use Rattle.tl_program.specs.Engine.{IsAnswered}
use Rattle.tl_program.specs.Fault.{of_audit}
use Rattle.tl_program.specs.declared.fault.RunFault.{RunFault}
use Rattle.tl_program.specs.declared.fault.RunFault.TheVariants as run

pub at_err : {T E : Type 0} (P : E → Type 0) (r : Result T E) → ((e : E) → P e) → IfErr r P
at_err P (Ok x) p = tt
at_err P (Err e) p = p e

-- the fault of an audit that is told is the one that was found, and not want of memory
pub audit_told : (found told : AuditFault) → of_audit found ≡ run.Audit told → (found ≡ told) × (told ≢ Memory)
audit_told (Missing m k) told is = let same : Missing m k ≡ told = cc in (same, λ other. cc)
audit_told (Twice p i) told is = let same : Twice p i ≡ told = cc in (same, λ other. cc)
audit_told (Order m k) told is = let same : Order m k ≡ told = cc in (same, λ other. cc)
audit_told (Untraced p i) told is = let same : Untraced p i ≡ told = cc in (same, λ other. cc)
audit_told Memory told is = absurd cc

pub told_by : (result : Result Unit RunFault) (found told : AuditFault)
    → IsErrAnd result (λ fault. fault ≡ of_audit found) → result ≡ Err (run.Audit told)
    → (found ≡ told) × (told ≢ Memory)
told_by (Ok x) found told gives is = absurd gives
told_by (Err e) found told gives is = let same : e ≡ run.Audit told = cc in audit_told found told (sym gives ∙ same)

-- memory was refused, so nothing was written
pub refused : (IsText : System → List ℕ → Type 0) (HasFault : System → AuditFault → Type 0)
    (read_old read_new at : Option (List ℕ)) (result : Result Unit RunFault)
    → IsErrAnd result (λ fault. fault ≡ run.Memory) → TakesUpTo (MAX_SCRIPT + 1) read_old read_new
    → IsAnswered IsText HasFault read_old read_new at at result
refused IsText HasFault read_old read_new at (Ok x) is taken = absurd is
refused IsText HasFault read_old read_new at (Err e) is taken = record {
  ok = tt;
  script = λ fault same. let other : run.Memory ≡ run.Script fault = cc in absurd cc;
  audit = λ fault same. let other : run.Memory ≡ run.Audit fault = cc in absurd cc;
  taken = taken;
  quiet = λ other. Keeps-refl at;
  part = λ same. let other : run.Memory ≡ run.Write = cc in absurd cc;
}
