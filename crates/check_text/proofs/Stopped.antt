-- An answer that is given before any row was read.
use Rattle.std.proofs.Common.{◌≡◌, ℕ, Bool, inl, List, Option, Some, None, Result, Ok, Err, IfOk, IfSome, refl, subst, sym}
use Rattle.std.specs.Result.{IsErrAnd}
use Rattle.std.proofs.KnownBytes.{Appends-nil}
use Rattle.check_records.specs.Source.{TextLeft}
use Rattle.check_records.specs.Text.{IsTooLong, TextPlace, text_start}
use Rattle.check_records.specs.declared.fault.RecordFault.{RecordFault}
use Rattle.check_records.specs.declared.fault.RecordFault.TheVariants as record_fault
use Rattle.check_review.specs.Verdict.{SystemPlan}
use Rattle.check_text.specs.Buses.{LinkBuses}
use Rattle.check_text.specs.Capture.{HasHeaderFault, HasNoHeader}
use Rattle.check_text.specs.Fault.{of_record}
use Rattle.check_text.specs.declared.fault.CaptureFault.{CaptureFault}
use Rattle.check_text.specs.declared.fault.CaptureFault.TheVariants as fault
use Rattle.check_text.specs.declared.fault.Verdict.{Verdict}
use Rattle.check_text.proofs.Answering.{Says}
use Rattle.check_text.proofs.Taking.{at_start, between_map}

-- what holds of every text holds of one that is known
if_known : (known : Option (List ℕ)) (P : List ℕ → Type 0) → ((text : List ℕ) → P text) → IfSome known P
if_known None P all = tt
if_known (Some text) P all = all text

-- nothing is said of a verdict
pub not_ok : {X : Type 0} (P : X → Type 0) (result : Result X CaptureFault) (why : CaptureFault)
    → IsErrAnd result (λ e. e ≡ why) → IfOk result P
not_ok P (Ok x) why is = absurd is
not_ok P (Err e) why is = tt

module _ (asked trace : Bool) (plan : SystemPlan) (buses : LinkBuses) (old : Option (List ℕ)) where
  abbrev SaysOf : CaptureFault → TextPlace → Type 0
  SaysOf why from = Says asked trace plan buses old old (Err why) from

  -- no reader was made
  not_made : (why : RecordFault) (from : TextPlace) → ((line : ℕ) → why ≡ record_fault.TooLong line → ⊥)
      → SaysOf (of_record why) from
  not_made (record_fault.TooLong line) from none = absurd (none line refl)
  not_made record_fault.Read from none = record { verdict = tt; fault = tt; written = inl (Appends-nil old) }
  not_made record_fault.Memory from none = record { verdict = tt; fault = tt; written = inl (Appends-nil old) }

  -- no header was read
  pub no_header : (a b : TextLeft) (why : CaptureFault) → HasHeaderFault a b why
      → IfSome a.text (λ text. SaysOf why (record { line = a.line; text = text }))
  no_header a b (fault.Header line) is =
      at_start a b (SaysOf (fault.Header line))
      (between_map a b (λ from to. HasNoHeader from to line) (λ from to. SaysOf (fault.Header line) from)
      (λ x y no. record { verdict = tt; fault = (y, no); written = Appends-nil old }) is)
  no_header a b (fault.TooLong line) is = go a.text is
    where
      go : (text : Option (List ℕ)) → IfSome text (λ t. IsTooLong (record { line = a.line; text = t }) line)
          → IfSome text (λ t. SaysOf (fault.TooLong line) (record { line = a.line; text = t }))
      go None is = tt
      go (Some text) is = record { verdict = tt; fault = inl is; written = inl (is, Appends-nil old) }
  no_header a b (fault.Row line row) is = absurd is
  no_header a b fault.Read is =
      if_known a.text (λ text. SaysOf fault.Read (record { line = a.line; text = text }))
      (λ text. record { verdict = tt; fault = tt; written = inl (Appends-nil old) })
  no_header a b fault.Memory is =
      if_known a.text (λ text. SaysOf fault.Memory (record { line = a.line; text = text }))
      (λ text. record { verdict = tt; fault = tt; written = inl (Appends-nil old) })
  no_header a b fault.Write is = absurd is

  -- and so of the answer
  pub says_stopped : (known : Option (List ℕ)) (result : Result Verdict CaptureFault) (why : CaptureFault)
      → IsErrAnd result (λ e. e ≡ why) → IfSome known (λ text. SaysOf why (text_start text))
      → IfSome known (λ text. Says asked trace plan buses old old result (text_start text))
  says_stopped known (Ok v) why is says = absurd is
  says_stopped known (Err e) why is says =
      subst (λ (w : CaptureFault). IfSome known (λ text. SaysOf w (text_start text))) (sym is) says

  pub says_not_made : (known : Option (List ℕ)) (result : Result Verdict CaptureFault) (why : RecordFault)
      → IsErrAnd result (λ e. e ≡ of_record why) → ((line : ℕ) → why ≡ record_fault.TooLong line → ⊥)
      → IfSome known (λ text. Says asked trace plan buses old old result (text_start text))
  says_not_made known result why is none =
      says_stopped known result (of_record why) is
      (if_known known (λ text. SaysOf (of_record why) (text_start text)) (λ text. not_made why (text_start text) none))
