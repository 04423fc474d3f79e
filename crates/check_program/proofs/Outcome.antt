-- What is answered before it is known whether a capture or a dump is judged.
use Rattle.std.proofs.Common.{◌≡◌, ℕ, Bool, true, false, List, Option, Result, Ok, Err, IfOk, IfSome, inl, inr, ap, subst}
use Rattle.std.proofs.KnownBytes.{Keeps-refl}
use Rattle.std.specs.Result.{IsErrAnd}
use Rattle.tl_streams.specs.declared.streams.ReadFault.{ReadFault}
use Rattle.tl_streams.specs.declared.streams.ReadFault.TheVariants as read
use Rattle.check_description.specs.Description.{Description, Makes}
use Rattle.check_description.specs.File.{Parts}
use Rattle.check_program.specs.Dump.{IsDumpCounted, IsOutcome, IsOutcomeCounted, IsUnknownFault}
use Rattle.check_program.specs.Engine.{GivenParts, IsCounted, IsUnprepared}
use Rattle.check_program.specs.Fault.{of_read}
use Rattle.check_program.specs.Front.{is_dump}
use Rattle.check_program.specs.declared.asked.Asked.{Asked}
use Rattle.check_program.specs.declared.fault.CheckFault.{CheckFault}
use Rattle.check_program.specs.declared.fault.CheckFault.TheVariants as check

is_err : (result : Result Bool CheckFault) (fault : CheckFault) → IsErrAnd result (λ e. e ≡ fault) → result ≡ Err fault
is_err (Ok lawful) fault is = absurd is
is_err (Err e) fault is = ap Err is

module _ (asked : Asked) (given : GivenParts) where
  pub why_unread : (system : Description) → Makes given.parts system → (fault : ReadFault)
      → IsUnknownFault asked given (of_read fault)
  why_unread system made read.Memory = tt
  why_unread system made read.Read = (system, made)

  pub why_unprepared : (fault : CheckFault) → IsUnprepared asked.terms given.parts given.images fault
      → IsUnknownFault asked given fault
  why_unprepared (check.System fault) is = is
  why_unprepared (check.Capture fault) is = absurd is
  why_unprepared (check.Keys fault) is = absurd is
  why_unprepared (check.Unnamed link) is = absurd is
  why_unprepared (check.Dump fault) is = absurd is
  why_unprepared check.Read is = absurd is
  why_unprepared check.Write is = absurd is
  why_unprepared check.Memory is = tt

  -- nothing was written
  pub unread : (bytes : Option (List ℕ)) (result : Result Bool CheckFault) (fault : CheckFault)
      → IsErrAnd result (λ e. e ≡ fault) → IsUnknownFault asked given fault → IsOutcome asked given bytes bytes result
  unread bytes result fault is why =
      inr (inr (record { fault = fault; is = is_err result fault is; why = why; written = Keeps-refl bytes }))

  -- what is counted of a dump, or of a capture
  pub counted_dump : (old new : List ℕ) (result : Result Bool CheckFault)
      → IfSome given.capture (λ text. is_dump text ≡ true) → IfOk result (IsDumpCounted asked given old new)
      → IfOk result (IsOutcomeCounted asked given old new)
  counted_dump old new (Ok lawful) is counted = inr (is, counted)
  counted_dump old new (Err e) is counted = tt

  pub counted_capture : (old new : List ℕ) (result : Result Bool CheckFault)
      → IfSome given.capture (λ text. is_dump text ≡ false) → IfOk result (IsCounted asked given old new)
      → IfOk result (IsOutcomeCounted asked given old new)
  counted_capture old new (Ok lawful) is counted = inl (is, counted)
  counted_capture old new (Err e) is counted = tt

-- the file is given by its bytes
module _ (asked : Asked) (bytes file : List ℕ) (parts : Parts) (images : List (List ℕ)) (capture : Option (List ℕ))
    (result : Result Bool CheckFault) (same : bytes ≡ file) where
  abbrev given_by : List ℕ → GivenParts
  given_by bytes = record { file = bytes; parts = parts; images = images; capture = capture }

  pub outcome_of : (old new : Option (List ℕ))
      → IsOutcome asked (record { file = bytes; parts = parts; images = images; capture = capture }) old new result
      → IsOutcome asked (record { file = file; parts = parts; images = images; capture = capture }) old new result
  outcome_of old new is = subst (λ (b : List ℕ). IsOutcome asked (given_by b) old new result) same is

  pub counted_of : (old new : List ℕ)
      → IfOk result (IsOutcomeCounted asked (record { file = bytes; parts = parts; images = images; capture = capture }) old new)
      → IfOk result (IsOutcomeCounted asked (record { file = file; parts = parts; images = images; capture = capture }) old new)
  counted_of old new is = subst (λ (b : List ℕ). IfOk result (IsOutcomeCounted asked (given_by b) old new)) same is
