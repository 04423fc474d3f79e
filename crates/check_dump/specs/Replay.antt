-- What becomes of the rows of a dump: the verdict over them, or why there is none. This project's own.
use Rattle.std.specs.Prelude.{◌≡◌, ◌⊎◌, ℕ, ◌+◌, ◌<◌, ◌≤◌, Bool, true, false, nat_lt, if◌then◌else◌, List, [], ◌++◌, length, All, Contains, Option, Some, None, Result, Ok, Err, ⊤}
use Rattle.std.specs.Io.KnownBytes.{Appends}
use Rattle.tl_streams.specs.Streams.{AppendsPart}
use Rattle.check_rows.specs.Row.{SeenRow}
use Rattle.check_rows.specs.Column.{column_parts}
use Rattle.check_rows.specs.declared.fault.RowFault.{RowFault}
use Rattle.check_review.specs.Stretches.{Stretches}
use Rattle.check_review.specs.Covered.{HasCovered, IsCoveredBefore}
use Rattle.check_review.specs.Order.{HasRowFault, IsLater}
use Rattle.check_review.specs.Verdict.{HasCounts, HasLeft, IsFirstUnlawful, IsLawfulFile, IsToldEarlier, IsToldFile, IsToldPart, SystemPlan}
use Rattle.check_review.specs.View.{HasTold, JudgeView, Judges, is_asked, is_traced}
use Rattle.check_review.specs.declared.stop.Ending.{Ending}
use Rattle.check_review.specs.declared.stop.Refusal.{Refusal}
use Rattle.check_review.specs.declared.stop.Refusal.TheVariants as refusal
use Rattle.check_review.specs.declared.stop.Stop.{Stop}
use Rattle.check_review.specs.declared.stop.Stop.TheVariants as stop
use Rattle.check_review.specs.declared.tally.Tally.{Tally}
use Rattle.check_samples.specs.EdgeFault.{edge_fault_view}
use Rattle.check_samples.specs.Left.{End, RowsLeft}
use Rattle.check_samples.specs.Left.End.{BeforeBeat, BeforeLine, Whole, WithoutEdges}
use Rattle.check_text.specs.Buses.{LinkBuses, row_on}
use Rattle.check_text.specs.Out.{WritesAll, WritesFront, WritesPart, Wrote}
use Rattle.check_text.specs.Rows.{IsToldBy, OfJudged, TellsBefore, verdict_at_end}
use Rattle.check_text.specs.declared.fault.Verdict.{Verdict}
use Rattle.check_text.specs.declared.fault.Verdict.TheVariants.{Incomplete, Lawful, Unlawful}
use Rattle.check_dump.specs.Lines.{AreRowLines, BeginsWithLine, HasNoLine, SpellsRow, end_of}
use Rattle.check_dump.specs.declared.lines.LineFault.{LineFault}
use Rattle.check_dump.specs.declared.lines.LineFault.TheVariants as line_fault
use Rattle.check_dump.specs.declared.kept.RowsEnd.{RowsEnd}
use Rattle.check_dump.specs.declared.kept.RowsEnd.TheVariants as ends
use Rattle.check_dump.specs.declared.fault.ReplayFault.{ReplayFault}
use Rattle.check_dump.specs.declared.fault.ReplayFault.TheVariants as fault
use Rattle.check_dump.specs.declared.replay.Halt.{Halt}
use Rattle.check_dump.specs.declared.replay.Halt.TheVariants as halt
use Rattle.check_dump.specs.declared.replay.Place.{Place}

-- ---- lines and times

-- the line after the header and these rows
abbrev pub line_after : List SeenRow → ℕ
line_after rows = 2 + length rows

-- rows end at a later time than all of these. Only a beat with an unknown bit can be of their last time: the end of a
-- dump, or a line that is wrong, comes after the rows of a time are made
abbrev pub EndsLater : End → List SeenRow → Type 0
EndsLater Whole rows = ⊤
EndsLater (WithoutEdges why) rows = ⊤
EndsLater (BeforeBeat unknown) rows = All (λ (row : SeenRow). row.time < unknown.time) rows
EndsLater (BeforeLine line mistake) rows = ⊤

-- a text begins with a line that is a row, after these, of a later time
pub record BeginsLater (buses : LinkBuses) (rows : List SeenRow) (text : List ℕ) : Type 0 where
  pub line : List ℕ
  pub rest : List ℕ
  pub row : SeenRow
  pub begins : BeginsWithLine line rest text
  pub spells : SpellsRow buses (line_after rows) line row
  pub later : IsLater rows row

-- no row of the last time of these rows is to come: nothing is left, and they end later, or a row of a later time is next
abbrev pub IsMomentOver : LinkBuses → List SeenRow → List ℕ → End → Type 0
IsMomentOver buses rows rest end = ((rest ≡ []) × EndsLater end rows) ⊎ BeginsLater buses rows rest

-- why the line after these rows is no row that may stand there
abbrev pub IsNoRowLine : LinkBuses → List SeenRow → List ℕ → RowFault → Type 0
IsNoRowLine buses rows line why =
    (row_on buses (line_after rows) (column_parts line) ≡ Err why)
    ⊎ ((row : SeenRow) × SpellsRow buses (line_after rows) line row × HasRowFault rows row why)

-- a text begins with a line that is no row after these
abbrev pub BeginsWithNoRow : LinkBuses → List SeenRow → List ℕ → RowFault → Type 0
BeginsWithNoRow buses rows text why =
    (line : List ℕ) × (rest : List ℕ) × BeginsWithLine line rest text × IsNoRowLine buses rows line why

-- ---- what is answered

-- what is said of the rows so far, of the text after them and of how the rows end, if this is answered. A fault of the
-- dump is told of rows that are lawful; one of the last time of the rows, without judging those of that time
abbrev pub IsReplayAnswer : Bool → SystemPlan → LinkBuses → Result Verdict ReplayFault → List SeenRow → List ℕ → End → Type 0
IsReplayAnswer asked plan buses (Ok (Lawful counts)) rows rest end =
    (rest ≡ []) × (end ≡ Whole) × IsLawfulFile plan rows × HasCounts plan rows counts × HasLeft asked plan rows None
IsReplayAnswer asked plan buses (Ok (Incomplete over)) rows rest end =
    (rest ≡ []) × (end ≡ Whole) × IsLawfulFile plan rows × HasLeft asked plan rows (Some over)
IsReplayAnswer asked plan buses (Ok (Unlawful found)) rows rest end =
    IsMomentOver buses rows rest end × IsFirstUnlawful plan rows found
IsReplayAnswer asked plan buses (Err (fault.Edges why)) rows rest end =
    (rest ≡ []) × (end ≡ WithoutEdges (edge_fault_view why)) × IsLawfulFile plan rows
IsReplayAnswer asked plan buses (Err (fault.Unknown unknown)) rows rest end =
    (rest ≡ []) × (end ≡ BeforeBeat unknown) × (EndsLater end rows → IsLawfulFile plan rows)
IsReplayAnswer asked plan buses (Err (fault.Dump line mistake)) rows rest end =
    (rest ≡ []) × (end ≡ BeforeLine line mistake) × IsLawfulFile plan rows
IsReplayAnswer asked plan buses (Err (fault.Row line why)) rows rest end =
    (line ≡ line_after rows) × BeginsWithNoRow buses rows rest why
IsReplayAnswer asked plan buses (Err fault.Read) rows rest end = ⊤
IsReplayAnswer asked plan buses (Err fault.Memory) rows rest end = ⊤
IsReplayAnswer asked plan buses (Err fault.Write) rows rest end = ⊤

-- what is written of the rows so far, if this is answered: all that is told with a verdict; before a fault of the dump all
-- that is told of rows that are lawful; where memory was refused a front of what is told of those that cross first; if a
-- write failed such a front, and not all of it
abbrev pub IsReplayOut : Bool → SystemPlan → Result Verdict ReplayFault → List SeenRow → Option (List ℕ) → Option (List ℕ) → Type 0
IsReplayOut trace plan (Ok verdict) rows old new = WritesAll (IsToldBy trace plan verdict rows) old new
IsReplayOut trace plan (Err (fault.Edges why)) rows old new = WritesAll (IsToldFile trace plan rows) old new
IsReplayOut trace plan (Err (fault.Unknown unknown)) rows old new = WritesAll (IsToldPart trace plan rows) old new
IsReplayOut trace plan (Err (fault.Dump line mistake)) rows old new = WritesAll (IsToldFile trace plan rows) old new
IsReplayOut trace plan (Err (fault.Row line why)) rows old new = WritesAll (IsToldEarlier trace plan rows) old new
IsReplayOut trace plan (Err fault.Read) rows old new = WritesAll (IsToldEarlier trace plan rows) old new
IsReplayOut trace plan (Err fault.Memory) rows old new = WritesFront (IsToldPart trace plan rows) old new
IsReplayOut trace plan (Err fault.Write) rows old new = WritesPart (IsToldPart trace plan rows) old new

-- the rows so far of a dump that has these to come, what is answered of them, and what was written
pub record IsReplayed (asked trace : Bool) (plan : SystemPlan) (buses : LinkBuses) (left : RowsLeft) (old new : Option (List ℕ))
    (answer : Result Verdict ReplayFault) : Type 0 where
  pub rows : List SeenRow
  pub front : List ℕ
  pub rest : List ℕ
  pub is : left.text ≡ front ++ rest
  pub spell : AreRowLines buses 2 rows front
  pub answers : IsReplayAnswer asked plan buses answer rows rest left.end
  pub out : IsReplayOut trace plan answer rows old new

-- the rows of a dump that a verdict is of, and something that holds of them as far as they are lawful
pub record OfReplayed (plan : SystemPlan) (buses : LinkBuses) (left : RowsLeft) (verdict : Verdict)
    (Holds : (crossed : List SeenRow) → Stretches plan crossed → Type 0) : Type 0 where
  pub rows : List SeenRow
  pub front : List ℕ
  pub rest : List ℕ
  pub is : left.text ≡ front ++ rest
  pub spell : AreRowLines buses 2 rows front
  pub holds : OfJudged plan verdict rows Holds

-- this was counted of them
abbrev pub IsReplayCovered : SystemPlan → LinkBuses → RowsLeft → Tally → Verdict → Type 0
IsReplayCovered plan buses left tally verdict =
    OfReplayed plan buses left verdict (λ crossed course. HasCovered plan crossed course tally)

-- ---- for the proofs: a judge that takes rows

-- a row was taken of this time last
abbrev pub IsLatest : Option ℕ → List SeenRow → Type 0
IsLatest None rows = rows ≡ []
IsLatest (Some time) rows =
    All (λ (row : SeenRow). row.time ≤ time) rows × ((row : SeenRow) × Contains rows row × (row.time ≡ time))

-- why the judge of these rows does not take the row of a line, and what was counted of them
abbrev pub LineStops : LinkBuses → ℕ → List ℕ → JudgeView → Tally → List ℕ → List ℕ → Halt → Type 0
LineStops buses number line judge tally text grown (halt.Unlawful found) =
    (plan : SystemPlan) (rows : List SeenRow) (so_far : List ℕ) → HasTold plan rows judge so_far
    → ((row : SeenRow) × SpellsRow buses number line row × IsLater rows row)
    × IsFirstUnlawful plan rows found × IsCoveredBefore plan rows tally found
    × TellsBefore (is_traced judge) plan rows so_far text grown found
LineStops buses number line judge tally text grown (halt.Fault (fault.Row on why)) =
    (on ≡ number) × ((plan : SystemPlan) (rows : List SeenRow) (so_far : List ℕ) → HasTold plan rows judge so_far
    → ((row_on buses number (column_parts line) ≡ Err why)
    ⊎ ((row : SeenRow) × SpellsRow buses number line row × HasRowFault rows row why)) × (grown ≡ text))
LineStops buses number line judge tally text grown (halt.Fault (fault.Edges why)) = ⊥
LineStops buses number line judge tally text grown (halt.Fault (fault.Unknown unknown)) = ⊥
LineStops buses number line judge tally text grown (halt.Fault (fault.Dump at mistake)) = ⊥
LineStops buses number line judge tally text grown (halt.Fault fault.Read) = ⊥
LineStops buses number line judge tally text grown (halt.Fault fault.Memory) = ⊤
LineStops buses number line judge tally text grown (halt.Fault fault.Write) = ⊥

-- why a line is not read as a row: it is none, or there was no memory for it
abbrev pub IsNoDue : LinkBuses → ℕ → List ℕ → Halt → Type 0
IsNoDue buses number line (halt.Unlawful found) = ⊥
IsNoDue buses number line (halt.Fault (fault.Row on why)) =
    (on ≡ number) × (row_on buses number (column_parts line) ≡ Err why)
IsNoDue buses number line (halt.Fault (fault.Edges why)) = ⊥
IsNoDue buses number line (halt.Fault (fault.Unknown unknown)) = ⊥
IsNoDue buses number line (halt.Fault (fault.Dump at mistake)) = ⊥
IsNoDue buses number line (halt.Fault fault.Read) = ⊥
IsNoDue buses number line (halt.Fault fault.Memory) = ⊤
IsNoDue buses number line (halt.Fault fault.Write) = ⊥

-- why the judge stops at a row on this line
abbrev pub halt_of : ℕ → Stop → Halt
halt_of line (stop.Row why) = halt.Fault (fault.Row line why)
halt_of line (stop.Beat found) = halt.Unlawful found
halt_of line stop.Memory = halt.Fault fault.Memory

-- a judge of no rows took these, from one place to another; what it told was written, but for this text
pub record TookLines (buses : LinkBuses) (first now : JudgeView) (place : Place) (old new : Option (List ℕ))
    (text : List ℕ) (from to : RowsLeft) : Type 0 where
  pub rows : List SeenRow
  pub front : List ℕ
  pub is : from.text ≡ front ++ to.text
  pub end : to.end ≡ from.end
  pub spell : AreRowLines buses 2 rows front
  pub number : place.number ≡ line_after rows
  pub latest : IsLatest place.latest rows
  pub traced : is_traced now ≡ is_traced first
  pub asked : is_asked now ≡ is_asked first
  pub told : (plan : SystemPlan) → Judges plan [] first → Wrote (HasTold plan rows now) old new text

-- and then no line was left
pub record AllTaken (buses : LinkBuses) (first now : JudgeView) (place : Place) (old new : Option (List ℕ)) (text : List ℕ)
    (ended : Option RowsEnd) (from : RowsLeft) : Type 0 where
  pub last : RowsLeft
  pub took : TookLines buses first now place old new text from last
  pub none : HasNoLine ended last

-- the later of two times, of which the first may be none
abbrev pub later_of : Option ℕ → ℕ → ℕ
later_of None time = time
later_of (Some before) time = if nat_lt time before then before else time

-- what becomes of the fault of a line: it is told as it is.
abbrev pub replay_fault_of : LineFault → ReplayFault
replay_fault_of line_fault.Read = fault.Read
replay_fault_of line_fault.Memory = fault.Memory

-- what is answered if no more rows are taken.
abbrev pub answer_of : Halt → Result Verdict ReplayFault
answer_of (halt.Unlawful found) = Ok (Unlawful found)
answer_of (halt.Fault why) = Err why

-- what is answered of rows that are lawful, by how they end.
abbrev pub answer_at : RowsEnd → Ending → Result Verdict ReplayFault
answer_at ends.Whole ending = Ok (verdict_at_end ending)
answer_at (ends.WithoutEdges why) ending = Err (fault.Edges why)
answer_at (ends.BeforeBeat unknown) ending = Err (fault.Unknown unknown)
answer_at (ends.BeforeLine line mistake) ending = Err (fault.Dump line mistake)

-- what is answered where the last rows are refused
abbrev pub answer_refused : Refusal → Result Verdict ReplayFault
answer_refused (refusal.Unlawful found) = Ok (Unlawful found)
answer_refused refusal.Memory = Err fault.Memory

-- what is told by an answer was written, but for this text; or a front of it
abbrev pub ReplayWrote : Bool → SystemPlan → Result Verdict ReplayFault → List SeenRow → Option (List ℕ) → Option (List ℕ) → List ℕ
    → Type 0
ReplayWrote trace plan (Ok verdict) rows old new text = Wrote (IsToldBy trace plan verdict rows) old new text
ReplayWrote trace plan (Err (fault.Edges why)) rows old new text = Wrote (IsToldFile trace plan rows) old new text
ReplayWrote trace plan (Err (fault.Unknown unknown)) rows old new text = Wrote (IsToldPart trace plan rows) old new text
ReplayWrote trace plan (Err (fault.Dump line mistake)) rows old new text = Wrote (IsToldFile trace plan rows) old new text
ReplayWrote trace plan (Err (fault.Row line why)) rows old new text = Wrote (IsToldEarlier trace plan rows) old new text
ReplayWrote trace plan (Err fault.Read) rows old new text = Wrote (IsToldEarlier trace plan rows) old new text
ReplayWrote trace plan (Err fault.Memory) rows old new text = WritesFront (IsToldPart trace plan rows) old new
ReplayWrote trace plan (Err fault.Write) rows old new text = WritesPart (IsToldPart trace plan rows) old new

-- what was counted, if this is answered
abbrev pub IsReplayCounted : SystemPlan → Result Verdict ReplayFault → List SeenRow → Tally → Type 0
IsReplayCounted plan (Ok verdict) rows tally = OfJudged plan verdict rows (λ crossed course. HasCovered plan crossed course tally)
IsReplayCounted plan (Err why) rows tally = ⊤

-- a judge of no rows took some and answers this
pub record IsReplayedBy (buses : LinkBuses) (first : JudgeView) (tally : Tally) (old new : Option (List ℕ)) (text : List ℕ)
    (answer : Result Verdict ReplayFault) (left : RowsLeft) : Type 0 where
  pub rows : List SeenRow
  pub front : List ℕ
  pub rest : List ℕ
  pub is : left.text ≡ front ++ rest
  pub spell : AreRowLines buses 2 rows front
  pub answers : (plan : SystemPlan) → Judges plan [] first → IsReplayAnswer (is_asked first) plan buses answer rows rest left.end
  pub counted : (plan : SystemPlan) → Judges plan [] first → IsReplayCounted plan answer rows tally
  pub told : (plan : SystemPlan) → Judges plan [] first → ReplayWrote (is_traced first) plan answer rows old new text

-- the last rows of a judge are judged, unless a beat of their time ends them, and this is answered, by how the rows end
pub record EndsReplay (judge : JudgeView) (tally : Tally) (end : RowsEnd) (latest : Option ℕ) (text grown : List ℕ)
    (answer : Result Verdict ReplayFault) : Type 0 where
  pub answers : (plan : SystemPlan) (buses : LinkBuses) (rows : List SeenRow) → IsLatest latest rows → Judges plan rows judge
      → IsReplayAnswer (is_asked judge) plan buses answer rows [] (end_of end)
  pub counted : (plan : SystemPlan) (rows : List SeenRow) → Judges plan rows judge → IsReplayCounted plan answer rows tally
  pub told : (plan : SystemPlan) (rows : List SeenRow) (so_far : List ℕ) (old new : Option (List ℕ)) → HasTold plan rows judge so_far
      → Wrote (HasTold plan rows judge) old new text → ReplayWrote (is_traced judge) plan answer rows old new grown

-- the answer was given in the midst of a line: memory was refused, or a write failed
abbrev pub is_cut_short : Result Verdict ReplayFault → Bool
is_cut_short (Ok verdict) = false
is_cut_short (Err (fault.Edges why)) = false
is_cut_short (Err (fault.Unknown unknown)) = false
is_cut_short (Err (fault.Dump line mistake)) = false
is_cut_short (Err (fault.Row line why)) = false
is_cut_short (Err fault.Read) = false
is_cut_short (Err fault.Memory) = true
is_cut_short (Err fault.Write) = true

-- what was left of a text was written, and the answer is the same; or the write failed; of one that was cut nothing is
-- written
abbrev pub ReplayFinishes : Option (List ℕ) → Option (List ℕ) → List ℕ → Result Verdict ReplayFault
    → Result Verdict ReplayFault → Type 0
ReplayFinishes old new text answer result =
    ((is_cut_short answer ≡ true) × (result ≡ answer) × (new ≡ old))
    ⊎ ((is_cut_short answer ≡ false)
    × (((result ≡ answer) × Appends old new text) ⊎ ((result ≡ Err fault.Write) × AppendsPart old new text)))
