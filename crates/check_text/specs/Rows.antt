-- One row of a capture after another, as a judge takes them. This project's own.
use Rattle.std.specs.Prelude.{◌≡◌, ◌⊎◌, ℕ, List, [], ◌∷◌, ◌++◌, Option, Some, None, Result, Ok, Err, ⊤, Bool, true, false, IfSome}
use Rattle.check_rows.specs.Moment.{IsLink}
use Rattle.check_rows.specs.declared.fault.RowFault.{RowFault}
use Rattle.check_rows.specs.Buses.{HasBus}
use Rattle.check_rows.specs.Row.{SeenRow, seen_row}
use Rattle.check_rows.specs.declared.row.Row.{Row}
use Rattle.check_review.specs.Order.{HasRowFault, IsLater}
use Rattle.check_review.specs.Verdict.{HasCounts, HasLeft, IsFirstUnlawful, IsLawfulFile, IsToldBefore, IsToldEarlier, IsToldFile, IsToldPart, VerdictCounts, SystemPlan}
use Rattle.check_review.specs.Stretches.{Stretches}
use Rattle.check_review.specs.Covered.{HasCovered, IsCoveredBefore, OfBefore, OfLawful}
use Rattle.check_review.specs.View.{HasTold, Judges, TellsOn, is_asked, is_traced, JudgeView}
use Rattle.check_review.specs.declared.stop.Ending.{Ending}
use Rattle.check_review.specs.declared.stop.Refusal.{Refusal}
use Rattle.check_review.specs.declared.stop.Refusal.TheVariants as refusal
use Rattle.check_review.specs.declared.stop.Stop.{Stop}
use Rattle.check_review.specs.declared.stop.Stop.TheVariants as stop
use Rattle.check_review.specs.declared.stop.Unlawful.{Unlawful}
use Rattle.check_review.specs.declared.tally.Tally.{Tally}
use Rattle.check_records.specs.Source.{Between, TextLeft}
use Rattle.check_records.specs.Text.{Ends, GivesRecord, IsTooLong, TextPlace, Reads, RecordRow as Record}
use Rattle.check_records.specs.Reading.{Reading, StopsLong}
use Rattle.check_rows.specs.declared.request.Left.{Left as LeftOver}
use Rattle.check_text.specs.declared.fault.CaptureFault.{CaptureFault}
use Rattle.check_text.specs.declared.fault.CaptureFault.TheVariants as fault
use Rattle.check_text.specs.Out.{WritesAll, WritesFront, WritesPart, Wrote}
use Rattle.check_text.specs.declared.fault.Verdict.{Verdict}
use Rattle.check_text.specs.declared.fault.Verdict.TheVariants.{Incomplete, Lawful, Unlawful as NotLawful}
use Rattle.check_text.specs.declared.rows.Halt.{Halt}
use Rattle.check_text.specs.declared.rows.Halt.TheVariants as halt
use Rattle.check_text.specs.declared.rows.Next.{Next}
use Rattle.check_text.specs.declared.rows.Next.TheVariants as next
use Rattle.check_text.specs.Buses.{LinkBuses, row_on}

-- a record spells a row
abbrev pub SpellsCapture : LinkBuses → Record → SeenRow → Type 0
SpellsCapture buses r row = row_on buses r.line r.fields ≡ Ok row

-- records spell rows, one for one
abbrev pub SpellAll : LinkBuses → List Record → List SeenRow → Type 0
SpellAll buses [] [] = ⊤
SpellAll buses [] (row ∷ rows) = ⊥
SpellAll buses (r ∷ records) [] = ⊥
SpellAll buses (r ∷ records) (row ∷ rows) = SpellsCapture buses r row × SpellAll buses records rows

-- the next record is this row
pub record GivesRow (buses : LinkBuses) (row : SeenRow) (from to : TextPlace) : Type 0 where
  pub next : Record
  pub gives : GivesRecord from next to
  pub spells : SpellsCapture buses next row

-- these rows stand between two places
pub record HasRows (buses : LinkBuses) (rows : List SeenRow) (from to : TextPlace) : Type 0 where
  pub records : List Record
  pub reads : Reads from records to
  pub spell : SpellAll buses records rows

-- why the next record is no row after these
abbrev pub IsNoRow : LinkBuses → List SeenRow → Record → RowFault → Type 0
IsNoRow buses rows r fault =
    (row_on buses r.line r.fields ≡ Err fault)
    ⊎ ((row : SeenRow) × SpellsCapture buses r row × HasRowFault rows row fault)

-- the record on this line, the next one after these rows, is no row there
pub record HasNoRow (buses : LinkBuses) (rows : List SeenRow) (line : ℕ) (fault : RowFault) (from to : TextPlace) : Type 0 where
  pub next : Record
  pub gives : GivesRecord from next to
  pub on_line : line ≡ next.line
  pub no_row : IsNoRow buses rows next fault

-- no row of the time of these rows is to come: the text ends, or a row of a later time is next
abbrev pub IsTimeOver : LinkBuses → List SeenRow → TextPlace → Type 0
IsTimeOver buses rows at =
    ((end : TextPlace) × Ends at end) ⊎ ((row : SeenRow) × (to : TextPlace) × GivesRow buses row at to × IsLater rows row)

-- ---- what becomes of rows, and of the text after them

-- what is said of the rows that were taken, and of the place after them, if this is answered
abbrev pub IsAnswer : Bool → SystemPlan → LinkBuses → Result Verdict CaptureFault → List SeenRow → TextPlace → Type 0
IsAnswer asked plan buses (Ok (Lawful counts)) rows at =
    ((end : TextPlace) × Ends at end) × IsLawfulFile plan rows × HasCounts plan rows counts × HasLeft asked plan rows None
IsAnswer asked plan buses (Ok (Incomplete left)) rows at =
    ((end : TextPlace) × Ends at end) × IsLawfulFile plan rows × HasLeft asked plan rows (Some left)
IsAnswer asked plan buses (Ok (NotLawful found)) rows at = IsTimeOver buses rows at × IsFirstUnlawful plan rows found
IsAnswer asked plan buses (Err (fault.Header line)) rows at = ⊥
IsAnswer asked plan buses (Err (fault.TooLong line)) rows at = IsTooLong at line
IsAnswer asked plan buses (Err (fault.Row line why)) rows at = (to : TextPlace) × HasNoRow buses rows line why at to
IsAnswer asked plan buses (Err fault.Read) rows at = ⊤
IsAnswer asked plan buses (Err fault.Memory) rows at = ⊤
IsAnswer asked plan buses (Err fault.Write) rows at = ⊤

-- what is told with a verdict: of lawful rows all, also if requests are left; of unlawful ones what crosses before the first that is
abbrev pub IsToldBy : Bool → SystemPlan → Verdict → List SeenRow → List ℕ → Type 0
IsToldBy trace plan (Lawful counts) rows text = IsToldFile trace plan rows text
IsToldBy trace plan (Incomplete left) rows text = IsToldFile trace plan rows text
IsToldBy trace plan (NotLawful found) rows text = IsToldBefore trace plan rows text found

-- what is written of the rows that were taken, if this is answered: all that is told with a verdict; before a fault
-- of the text, or a read that failed, all that is told of those of an earlier time than the last; where memory was
-- refused a front of what is told of those that cross first; if a write failed such a front, and not all of it
abbrev pub IsOut : Bool → SystemPlan → Result Verdict CaptureFault → List SeenRow → Option (List ℕ) → Option (List ℕ) → Type 0
IsOut trace plan (Ok verdict) rows old new = WritesAll (IsToldBy trace plan verdict rows) old new
IsOut trace plan (Err (fault.Header line)) rows old new = ⊥
IsOut trace plan (Err (fault.TooLong line)) rows old new = WritesAll (IsToldEarlier trace plan rows) old new
IsOut trace plan (Err (fault.Row line why)) rows old new = WritesAll (IsToldEarlier trace plan rows) old new
IsOut trace plan (Err fault.Read) rows old new = WritesAll (IsToldEarlier trace plan rows) old new
IsOut trace plan (Err fault.Memory) rows old new = WritesFront (IsToldPart trace plan rows) old new
IsOut trace plan (Err fault.Write) rows old new = WritesPart (IsToldPart trace plan rows) old new

-- something holds of the rows of a verdict that are lawful, in the order in which they cross: of lawful rows of all, also
-- if requests are left; of unlawful ones of what crosses before the first that is
abbrev pub OfJudged : (plan : SystemPlan) → Verdict → List SeenRow → ((crossed : List SeenRow) → Stretches plan crossed → Type 0)
    → Type 0
OfJudged plan (Lawful counts) rows Holds = OfLawful plan rows Holds
OfJudged plan (Incomplete left) rows Holds = OfLawful plan rows Holds
OfJudged plan (NotLawful found) rows Holds = OfBefore plan rows found Holds

-- the rows up to a place are those that a verdict is of: all of the text, or all to the end of some time
abbrev pub AreJudged : LinkBuses → Verdict → List SeenRow → TextPlace → Type 0
AreJudged buses (Lawful counts) rows at = (end : TextPlace) × Ends at end
AreJudged buses (Incomplete left) rows at = (end : TextPlace) × Ends at end
AreJudged buses (NotLawful found) rows at = IsTimeOver buses rows at

-- ---- for the proofs: a judge that takes rows

-- rows are unlawful, the first by this one, and the next row is of a later time
pub record IsUnlawfulBefore (plan : SystemPlan) (buses : LinkBuses) (rows : List SeenRow) (found : Unlawful)
    (from to : TextPlace) : Type 0 where
  pub row : SeenRow
  pub next : GivesRow buses row from to
  pub later : IsLater rows row
  pub first : IsFirstUnlawful plan rows found

-- the judge took this row, and a text grew by what is told
pub record Took (old : JudgeView) (row : SeenRow) (new : JudgeView) (text grown : List ℕ) : Type 0 where
  pub traced : is_traced new ≡ is_traced old
  pub asked : is_asked new ≡ is_asked old
  pub tells : (plan : SystemPlan) (rows : List SeenRow) (so_far : List ℕ) → HasTold plan rows old so_far
      → TellsOn plan (rows ++ row ∷ []) new so_far text grown

-- the judge took the next row, or there is none
abbrev pub TakesNext : LinkBuses → JudgeView → JudgeView → List ℕ → List ℕ → Bool → TextPlace → TextPlace → Type 0
TakesNext buses old new text grown true from to = (row : SeenRow) × GivesRow buses row from to × Took old row new text grown
TakesNext buses old new text grown false from to = Ends from to × (new ≡ old) × (grown ≡ text)

-- a text grew by what is told before the first unlawful row
abbrev pub TellsBefore : Bool → SystemPlan → List SeenRow → List ℕ → List ℕ → List ℕ → Unlawful → Type 0
TellsBefore trace plan rows so_far text grown found =
    (more : List ℕ) × (grown ≡ text ++ more) × IsToldBefore trace plan rows (so_far ++ more) found

-- why it did not, whatever rows it had taken, and what was counted of them
abbrev pub StopsAt : LinkBuses → JudgeView → Tally → List ℕ → List ℕ → TextLeft → TextLeft → Halt → Type 0
StopsAt buses judge tally text grown old new (halt.Unlawful found) =
    Between old new (λ from to. (plan : SystemPlan) (rows : List SeenRow) (so_far : List ℕ) → HasTold plan rows judge so_far
    → IsUnlawfulBefore plan buses rows found from to × IsCoveredBefore plan rows tally found
    × TellsBefore (is_traced judge) plan rows so_far text grown found)
StopsAt buses judge tally text grown old new (halt.Fault (fault.Row line why)) =
    Between old new (λ from to. (plan : SystemPlan) (rows : List SeenRow) (so_far : List ℕ) → HasTold plan rows judge so_far
    → HasNoRow buses rows line why from to × (grown ≡ text))
StopsAt buses judge tally text grown old new (halt.Fault (fault.TooLong line)) = StopsLong old line × (grown ≡ text)
StopsAt buses judge tally text grown old new (halt.Fault (fault.Header line)) = ⊥
StopsAt buses judge tally text grown old new (halt.Fault fault.Read) = grown ≡ text
StopsAt buses judge tally text grown old new (halt.Fault fault.Memory) = ⊤
StopsAt buses judge tally text grown old new (halt.Fault fault.Write) = ⊥

-- what becomes of the next row, which this record spells, while nothing is told and no row is refused: the judge took it,
-- it is left with its lanes in the first places of a buffer, there is none, or it stops the judge
abbrev pub IsNext : LinkBuses → JudgeView → JudgeView → TextLeft → TextLeft → Record → List ℕ → Next → Type 0
IsNext buses old new from to r lanes next.Taken =
    Between from to (λ a b. GivesRecord a r b)
    × ((row : SeenRow) × SpellsCapture buses r row × ((text : List ℕ) → Took old row new text text))
IsNext buses old new from to r lanes (next.Left row) =
    Between from to (λ a b. GivesRecord a r b) × SpellsCapture buses r (seen_row row lanes) × (new ≡ old)
IsNext buses old new from to r lanes next.End = Between from to Ends × (new ≡ old)
IsNext buses old new from to r lanes (next.Fault why) =
    (text : List ℕ) → StopsAt buses old new.tally text text from to (halt.Fault why)

-- a row that is left is one that a judge can take: of a link that a system can have; and a beat has the bus of its link
pub record IsTakable (buses : LinkBuses) (row : Row) : Type 0 where
  pub link : IsLink row.link
  pub bus : row.is_reset ≡ false → HasBus buses.masters buses.ports row.link row.bus

-- the reader goes on after a row that is no fault
abbrev pub GoesOn : LinkBuses → Reading → Next → Type 0
GoesOn buses records next.Taken = records.fault ≡ None
GoesOn buses records (next.Left row) = (records.fault ≡ None) × IsTakable buses row
GoesOn buses records next.End = ⊤
GoesOn buses records (next.Fault why) = ⊤

-- why the judge stops at a row on this line
abbrev pub halt_of : ℕ → Stop → Halt
halt_of line (stop.Row why) = halt.Fault (fault.Row line why)
halt_of line (stop.Beat found) = halt.Unlawful found
halt_of line stop.Memory = halt.Fault fault.Memory

-- a judge of no rows took these, from one place to another; what it told was written, but for this text
pub record TookRows (buses : LinkBuses) (first now : JudgeView) (old new : Option (List ℕ)) (text : List ℕ)
    (from to : TextPlace) : Type 0 where
  pub rows : List SeenRow
  pub has : HasRows buses rows from to
  pub traced : is_traced now ≡ is_traced first
  pub asked : is_asked now ≡ is_asked first
  pub told : (plan : SystemPlan) → Judges plan [] first → Wrote (HasTold plan rows now) old new text

-- and then there were no more
abbrev pub AllTaken : LinkBuses → JudgeView → JudgeView → Option (List ℕ) → Option (List ℕ) → List ℕ → TextPlace → TextPlace → Type 0
AllTaken buses first now old new text from to =
    (last : TextPlace) × TookRows buses first now old new text from last × Ends last to

-- what is told by an answer was written, but for this text; or a front of it
abbrev pub WroteBy : Bool → SystemPlan → Result Verdict CaptureFault → List SeenRow → Option (List ℕ) → Option (List ℕ) → List ℕ
    → Type 0
WroteBy trace plan (Ok verdict) rows old new text = Wrote (IsToldBy trace plan verdict rows) old new text
WroteBy trace plan (Err (fault.Header line)) rows old new text = ⊥
WroteBy trace plan (Err (fault.TooLong line)) rows old new text = Wrote (IsToldEarlier trace plan rows) old new text
WroteBy trace plan (Err (fault.Row line why)) rows old new text = Wrote (IsToldEarlier trace plan rows) old new text
WroteBy trace plan (Err fault.Read) rows old new text = Wrote (IsToldEarlier trace plan rows) old new text
WroteBy trace plan (Err fault.Memory) rows old new text = WritesFront (IsToldPart trace plan rows) old new
WroteBy trace plan (Err fault.Write) rows old new text = WritesPart (IsToldPart trace plan rows) old new

-- what was counted, if this is answered
abbrev pub IsCountedBy : SystemPlan → Result Verdict CaptureFault → List SeenRow → Tally → Type 0
IsCountedBy plan (Ok verdict) rows tally = OfJudged plan verdict rows (λ crossed course. HasCovered plan crossed course tally)
IsCountedBy plan (Err why) rows tally = ⊤

-- a judge of no rows took some and answers this
pub record IsJudgedAt (buses : LinkBuses) (first : JudgeView) (tally : Tally) (old new : Option (List ℕ)) (text : List ℕ)
    (answer : Result Verdict CaptureFault) (from : TextPlace) : Type 0 where
  pub rows : List SeenRow
  pub last : TextPlace
  pub has : HasRows buses rows from last
  pub answers : (plan : SystemPlan) → Judges plan [] first → IsAnswer (is_asked first) plan buses answer rows last
  pub covered : (plan : SystemPlan) → Judges plan [] first → IsCountedBy plan answer rows tally
  pub told : (plan : SystemPlan) → Judges plan [] first → WroteBy (is_traced first) plan answer rows old new text

-- a judge of no rows took some from this place of a text on and answers this; nothing is said if the text is not known.
abbrev pub IsJudged : LinkBuses → JudgeView → Tally → Option (List ℕ) → Option (List ℕ) → List ℕ → TextLeft → Result Verdict CaptureFault
    → Type 0
IsJudged buses first tally old new text at answer =
    IfSome at.text (λ left. IsJudgedAt buses first tally old new text answer (record { line = at.line; text = left }))

-- what is answered if no more rows are taken.
abbrev pub answer_of : Halt → Result Verdict CaptureFault
answer_of (halt.Unlawful found) = Ok (NotLawful found)
answer_of (halt.Fault why) = Err why

-- what is answered if the rows of the last time are refused.
abbrev pub verdict_refused : Refusal → Result Verdict CaptureFault
verdict_refused (refusal.Unlawful found) = Ok (NotLawful found)
verdict_refused refusal.Memory = Err fault.Memory

-- the verdict over rows that are lawful: so many they are, and these requests are left, if it is asked which
abbrev pub ended_with : VerdictCounts → Option LeftOver → Verdict
ended_with counts None = Lawful counts
ended_with counts (Some left) = Incomplete left

-- the verdict over the rows of a whole text, which are lawful.
abbrev pub verdict_at_end : Ending → Verdict
verdict_at_end ending = ended_with ending.counts ending.left
