-- What a text is as a capture. The format is this project's own; what the rows of a lawful one are is said in
-- `check_review`.
use Rattle.std.specs.Prelude.{◌≡◌, ◌≢◌, ◌⊎◌, ℕ, Bool, List, [], Option, Some, None, Result, Ok, Err, ⊤}
use Rattle.std.specs.Io.KnownBytes.{Appends}
use Rattle.check_rows.specs.Row.{SeenRow}
use Rattle.check_review.specs.Stretches.{Stretches}
use Rattle.check_review.specs.Covered.{AppendsCoverage, HasCovered}
use Rattle.check_review.specs.Verdict.{HasCounts, HasLeft, IsFirstUnlawful, IsLawfulFile, SystemPlan}
use Rattle.check_records.specs.Reading.{StopsLong}
use Rattle.check_records.specs.Source.{Between, TextLeft}
use Rattle.check_records.specs.Text.{Ends, GivesRecord, IsTooLong, TextPlace, RecordRow as Record}
use Rattle.check_rows.specs.Column.{header}
use Rattle.check_review.specs.declared.tally.Tally.{Tally}
use Rattle.check_text.specs.Rows.{AreJudged, HasNoRow, HasRows, IsAnswer, IsOut, IsTimeOver, OfJudged}
use Rattle.check_text.specs.declared.fault.CaptureFault.{CaptureFault}
use Rattle.check_text.specs.declared.fault.CaptureFault.TheVariants as fault
use Rattle.check_text.specs.declared.fault.Verdict.{Verdict}
use Rattle.check_text.specs.declared.fault.Verdict.TheVariants.{Incomplete, Lawful, Unlawful}
use Rattle.check_text.specs.Buses.{LinkBuses}

-- the next record is the header
pub record HasHeader (from to : TextPlace) : Type 0 where
  pub first : Record
  pub gives : GivesRecord from first to
  pub is : first.fields ≡ header

-- from a place on a text has the header and these rows, up to another
pub record Begins (buses : LinkBuses) (from : TextPlace) (rows : List SeenRow) (at : TextPlace) : Type 0 where
  pub behind : TextPlace
  pub top : HasHeader from behind
  pub has : HasRows buses rows behind at

-- from a place on it is the header and these rows
pub record IsCapture (buses : LinkBuses) (from : TextPlace) (rows : List SeenRow) : Type 0 where
  pub last : TextPlace
  pub end : TextPlace
  pub begins : Begins buses from rows last
  pub ends : Ends last end

-- the rows of a capture are lawful, and so many; or those to the end of some time are not, the first by this one. If it
-- is asked which requests are left at the end of a lawful capture, these are left, or none is
abbrev pub IsVerdict : Bool → SystemPlan → LinkBuses → TextPlace → Verdict → Type 0
IsVerdict asked plan buses from (Lawful counts) =
    (rows : List SeenRow) × IsCapture buses from rows × IsLawfulFile plan rows × HasCounts plan rows counts
    × HasLeft asked plan rows None
IsVerdict asked plan buses from (Incomplete left) =
    (rows : List SeenRow) × IsCapture buses from rows × IsLawfulFile plan rows × HasLeft asked plan rows (Some left)
IsVerdict asked plan buses from (Unlawful found) =
    (rows : List SeenRow) × (at : TextPlace) × Begins buses from rows at × IsTimeOver buses rows at
    × IsFirstUnlawful plan rows found

-- the first record is on this line and is not the header; or there is none, which is told of line 1
abbrev pub HasNoHeader : TextPlace → TextPlace → ℕ → Type 0
HasNoHeader from to line =
    (Ends from to × (line ≡ 1)) ⊎ ((first : Record) × GivesRecord from first to × (line ≡ first.line)
    × (first.fields ≢ header))

-- why a text is no capture: of the first record that is no row, or none that may stand there, its line
abbrev pub IsFault : SystemPlan → LinkBuses → TextPlace → CaptureFault → Type 0
IsFault plan buses from (fault.Header line) = (to : TextPlace) × HasNoHeader from to line
IsFault plan buses from (fault.TooLong line) =
    IsTooLong from line ⊎ ((rows : List SeenRow) × (at : TextPlace) × Begins buses from rows at × IsTooLong at line)
IsFault plan buses from (fault.Row line why) =
    (rows : List SeenRow) × (at : TextPlace) × (to : TextPlace) × Begins buses from rows at × HasNoRow buses rows line why at to
IsFault plan buses from fault.Read = ⊤
IsFault plan buses from fault.Memory = ⊤
IsFault plan buses from fault.Write = ⊤

-- what is written before an answer that is given after the header and some rows
pub record IsWrittenOf (asked trace : Bool) (plan : SystemPlan) (buses : LinkBuses) (from : TextPlace) (old new : Option (List ℕ))
    (answer : Result Verdict CaptureFault) : Type 0 where
  pub rows : List SeenRow
  pub at : TextPlace
  pub begins : Begins buses from rows at
  pub answers : IsAnswer asked plan buses answer rows at
  pub out : IsOut trace plan answer rows old new

-- what is written before an answer: nothing before a fault of the header
abbrev pub IsWritten : Bool → Bool → SystemPlan → LinkBuses → TextPlace → Option (List ℕ) → Option (List ℕ)
    → Result Verdict CaptureFault → Type 0
IsWritten asked trace plan buses from old new (Ok verdict) = IsWrittenOf asked trace plan buses from old new (Ok verdict)
IsWritten asked trace plan buses from old new (Err (fault.Header line)) = Appends old new []
IsWritten asked trace plan buses from old new (Err (fault.TooLong line)) =
    (IsTooLong from line × Appends old new []) ⊎ IsWrittenOf asked trace plan buses from old new (Err (fault.TooLong line))
IsWritten asked trace plan buses from old new (Err (fault.Row line why)) =
    IsWrittenOf asked trace plan buses from old new (Err (fault.Row line why))
IsWritten asked trace plan buses from old new (Err fault.Read) =
    Appends old new [] ⊎ IsWrittenOf asked trace plan buses from old new (Err fault.Read)
IsWritten asked trace plan buses from old new (Err fault.Memory) =
    Appends old new [] ⊎ IsWrittenOf asked trace plan buses from old new (Err fault.Memory)
IsWritten asked trace plan buses from old new (Err fault.Write) = IsWrittenOf asked trace plan buses from old new (Err fault.Write)

-- something holds of the rows of a text that a verdict is of, as far as they are lawful
pub record OfCapture (plan : SystemPlan) (buses : LinkBuses) (from : TextPlace) (verdict : Verdict)
    (Holds : (crossed : List SeenRow) → Stretches plan crossed → Type 0) : Type 0 where
  pub rows : List SeenRow
  pub at : TextPlace
  pub begins : Begins buses from rows at
  pub judged : AreJudged buses verdict rows at
  pub holds : OfJudged plan verdict rows Holds

-- this was counted of them
abbrev pub IsCovered : SystemPlan → LinkBuses → TextPlace → Tally → Verdict → Type 0
IsCovered plan buses from tally verdict =
    OfCapture plan buses from verdict (λ crossed course. HasCovered plan crossed course tally)

-- a text grew by what they cover, if that is asked for
abbrev pub TellsCovered : Bool → SystemPlan → LinkBuses → TextPlace → List ℕ → List ℕ → Verdict → Type 0
TellsCovered asked plan buses from old new verdict =
    OfCapture plan buses from verdict (λ crossed course. AppendsCoverage asked plan crossed course old new)

-- ---- for the proofs

-- why no header was read
abbrev pub HasHeaderFault : TextLeft → TextLeft → CaptureFault → Type 0
HasHeaderFault old new (fault.Header line) = Between old new (λ from to. HasNoHeader from to line)
HasHeaderFault old new (fault.TooLong line) = StopsLong old line
HasHeaderFault old new (fault.Row line why) = ⊥
HasHeaderFault old new fault.Read = ⊤
HasHeaderFault old new fault.Memory = ⊤
HasHeaderFault old new fault.Write = ⊥
