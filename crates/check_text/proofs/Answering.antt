-- What becomes of a capture, and what is written before the answer.
use Rattle.std.proofs.Common.{◌≡◌, ℕ, inl, inr, ◌⊎◌, Bool, true, false, List, [], ◌++◌, Option, Some, None, Ok, Err, IfSome, option_map, refl, sym, subst}
use Rattle.std.specs.Prelude.{Result, IfErr, IfOk}
use Rattle.std.specs.Io.KnownBytes.{Appends, Keeps}
use Rattle.csv.specs.Reading.{strip_bom}
use Rattle.check_rows.specs.Row.{SeenRow}
use Rattle.check_review.specs.Verdict.{HasCounts, HasLeft, IsFirstUnlawful, IsLawfulFile, IsToldBefore, IsToldEarlier, IsToldFile, IsToldPart, OfUnlawful, VerdictCounts, SystemPlan}
use Rattle.check_review.specs.Covered.{IsCoveredBefore, IsCoveredFile}
use Rattle.check_review.specs.View.{HasTold, Judges, is_asked, is_traced, JudgeView}
use Rattle.check_review.specs.declared.stop.Refusal.{Refusal}
use Rattle.check_review.specs.declared.stop.Refusal.TheVariants as refusal
use Rattle.check_review.specs.declared.tally.Tally.{Tally}
use Rattle.check_review.proofs.Judging.{part_before, part_of_file, told_earlier}
use Rattle.check_records.specs.Source.{Between, TextLeft}
use Rattle.check_records.specs.Text.{Ends, TextPlace, text_start}
use Rattle.tl_streams.specs.Streams.{AppendsPart}
use Rattle.check_rows.specs.declared.request.Left.{Left as LeftOver}
use Rattle.check_text.specs.Capture.{HasHeader, IsCovered, IsFault, IsVerdict, IsWritten, IsWrittenOf}
use Rattle.check_text.specs.Out.{Finishes, WritesPart, is_cut}
use Rattle.check_text.specs.Rows.{AllTaken, AreJudged, IsAnswer, IsCountedBy, IsJudged, IsJudgedAt, IsOut, IsToldBy, WroteBy, ended_with, verdict_refused}
use Rattle.check_text.specs.declared.fault.CaptureFault.{CaptureFault}
use Rattle.check_text.specs.declared.fault.CaptureFault.TheVariants as fault
use Rattle.check_text.specs.declared.fault.Verdict.{Verdict}
use Rattle.check_text.specs.declared.fault.Verdict.TheVariants as verdict
use Rattle.check_text.specs.Buses.{LinkBuses}
use Rattle.check_text.proofs.OutLemmas.{wrote_all, wrote_more, wrote_part, wrote_so_far}
use Rattle.check_text.proofs.Taking.{at_start, behind_start, between_map}

-- ---- the last rows

-- a text grew by what is told of a lawful file, and by what is told before an unlawful row
abbrev TellsFile : Bool → SystemPlan → List SeenRow → List ℕ → List ℕ → List ℕ → Type 0
TellsFile trace plan rows so_far text grown =
    (more : List ℕ) × (grown ≡ text ++ more) × IsToldFile trace plan rows (so_far ++ more)

-- what is said of lawful rows, and what is told of them, whether requests are left or not
answers_end : (asked : Bool) (plan : SystemPlan) (buses : LinkBuses) (rows : List SeenRow) (at end : TextPlace) (counts : VerdictCounts)
    (left : Option LeftOver) → Ends at end → IsLawfulFile plan rows → HasCounts plan rows counts
    → HasLeft asked plan rows left → IsAnswer asked plan buses (Ok (ended_with counts left)) rows at
answers_end asked plan buses rows at end counts None ends lawful has left = ((end, ends), lawful, has, left)
answers_end asked plan buses rows at end counts (Some over) ends lawful has left = ((end, ends), lawful, left)

told_end : (trace : Bool) (plan : SystemPlan) (rows : List SeenRow) (text : List ℕ) (counts : VerdictCounts) (left : Option LeftOver)
    → IsToldFile trace plan rows text → IsToldBy trace plan (ended_with counts left) rows text
told_end trace plan rows text counts None told = told
told_end trace plan rows text counts (Some over) told = told

-- and what was counted of them
covered_end : (plan : SystemPlan) (rows : List SeenRow) (tally : Tally) (counts : VerdictCounts) (left : Option LeftOver)
    → IsCoveredFile plan rows tally → IsCountedBy plan (Ok (ended_with counts left)) rows tally
covered_end plan rows tally counts None covered = covered
covered_end plan rows tally counts (Some over) covered = covered

module _ (buses : LinkBuses) (first now : JudgeView) (tally : Tally) (old mid : Option (List ℕ)) (text grown : List ℕ) (a b : TextLeft)
    (all : Between a b (AllTaken buses first now old mid text)) where
  pub ends_lawful : (counts : VerdictCounts) (left : Option LeftOver)
      → ((plan : SystemPlan) (rows : List SeenRow) → Judges plan rows now
      → IsLawfulFile plan rows × HasCounts plan rows counts × HasLeft (is_asked now) plan rows left)
      → ((plan : SystemPlan) (rows : List SeenRow) → Judges plan rows now → IsCoveredFile plan rows tally)
      → ((plan : SystemPlan) (rows : List SeenRow) (so_far : List ℕ) → HasTold plan rows now so_far
      → TellsFile (is_traced now) plan rows so_far text grown)
      → IsJudged buses first tally old mid grown a (Ok (ended_with counts left))
  ends_lawful counts left lawful covers tells =
      let v : Verdict = ended_with counts left in
      at_start a b (IsJudgedAt buses first tally old mid grown (Ok v))
      (between_map a b (AllTaken buses first now old mid text)
      (λ from to. IsJudgedAt buses first tally old mid grown (Ok v) from) (λ x y taken.
      let took = taken.1 in record {
        rows = took.rows;
        last = taken.0;
        has = took.has;
        answers = λ plan start. let wrote = took.told plan start in
            let is = lawful plan took.rows wrote.holds.judges in
            answers_end (is_asked first) plan buses took.rows taken.0 y counts left taken.2 is.0 is.1
            (subst (λ asked. HasLeft asked plan took.rows left) took.asked is.2);
        covered = λ plan start.
            covered_end plan took.rows tally counts left (covers plan took.rows (took.told plan start).holds.judges);
        told = λ plan start.
            let wrote = took.told plan start in
            let on = tells plan took.rows wrote.told wrote.holds in
            wrote_more (HasTold plan took.rows now) old mid text wrote
            (IsToldBy (is_traced first) plan v took.rows) on.0 grown on.1
            (told_end (is_traced first) plan took.rows (wrote.told ++ on.0) counts left
            (subst (λ t. IsToldFile t plan took.rows (wrote.told ++ on.0)) took.traced on.2));
      }) all)

  pub ends_refused : (why : Refusal)
      → ((plan : SystemPlan) (rows : List SeenRow) → Judges plan rows now → OfUnlawful (IsFirstUnlawful plan rows) why)
      → ((plan : SystemPlan) (rows : List SeenRow) → Judges plan rows now → OfUnlawful (IsCoveredBefore plan rows tally) why)
      → ((plan : SystemPlan) (rows : List SeenRow) (so_far : List ℕ) → HasTold plan rows now so_far
      → OfUnlawful (λ found. (more : List ℕ) × (grown ≡ text ++ more)
      × IsToldBefore (is_traced now) plan rows (so_far ++ more) found) why)
      → IsJudged buses first tally old mid grown a (verdict_refused why)
  ends_refused (refusal.Unlawful found) unlawful covers tells =
      at_start a b (IsJudgedAt buses first tally old mid grown (verdict_refused (refusal.Unlawful found)))
      (between_map a b (AllTaken buses first now old mid text)
      (λ from to. IsJudgedAt buses first tally old mid grown (verdict_refused (refusal.Unlawful found)) from) (λ x y taken.
      let took = taken.1 in record {
        rows = took.rows;
        last = taken.0;
        has = took.has;
        answers = λ plan start. let wrote =
            took.told plan start in (inl (y, taken.2), unlawful plan took.rows wrote.holds.judges);
        covered = λ plan start. covers plan took.rows (took.told plan start).holds.judges;
        told = λ plan start.
            let wrote = took.told plan start in
            let on = tells plan took.rows wrote.told wrote.holds in
            wrote_more (HasTold plan took.rows now) old mid text wrote
            (λ t. IsToldBefore (is_traced first) plan took.rows t found) on.0 grown on.1
            (subst (λ t. IsToldBefore t plan took.rows (wrote.told ++ on.0) found) took.traced on.2);
      }) all)
  ends_refused refusal.Memory unlawful covers tells =
      at_start a b (IsJudgedAt buses first tally old mid grown (verdict_refused refusal.Memory))
      (between_map a b (AllTaken buses first now old mid text)
      (λ from to. IsJudgedAt buses first tally old mid grown (verdict_refused refusal.Memory) from) (λ x y taken.
      let took = taken.1 in record {
        rows = took.rows;
        last = taken.0;
        has = took.has;
        answers = λ plan start. tt;
        covered = λ plan start. tt;
        told = λ plan start.
            let wrote = took.told plan start in
            wrote_so_far (HasTold plan took.rows now) old mid text wrote (IsToldPart (is_traced first) plan took.rows)
            (subst (λ t. IsToldPart t plan took.rows wrote.told) took.traced
            (told_earlier plan took.rows now wrote.told wrote.holds).part);
      }) all)

-- ---- what is left is written

-- whatever is told by an answer is told of a part of the rows
part_told : (trace : Bool) (plan : SystemPlan) (rows : List SeenRow) (text : List ℕ) (v : Verdict)
    → IsToldBy trace plan v rows text → IsToldPart trace plan rows text
part_told trace plan rows text (verdict.Lawful counts) told = part_of_file trace plan rows text told
part_told trace plan rows text (verdict.Incomplete left) told = part_of_file trace plan rows text told
part_told trace plan rows text (verdict.Unlawful found) told = part_before trace plan rows text found told

-- where an answer was cut, what was written is written
cut_out : (trace : Bool) (plan : SystemPlan) (answer : Result Verdict CaptureFault) (rows : List SeenRow)
    (old mid : Option (List ℕ)) (text : List ℕ) → is_cut answer ≡ true
    → WroteBy trace plan answer rows old mid text → IsOut trace plan answer rows old mid
cut_out trace plan (Ok v) rows old mid text cut wrote = absurd (cc)
cut_out trace plan (Err (fault.Header line)) rows old mid text cut wrote = wrote
cut_out trace plan (Err (fault.TooLong line)) rows old mid text cut wrote = absurd (cc)
cut_out trace plan (Err (fault.Row line why)) rows old mid text cut wrote = absurd (cc)
cut_out trace plan (Err fault.Read) rows old mid text cut wrote = absurd (cc)
cut_out trace plan (Err fault.Memory) rows old mid text cut wrote = wrote
cut_out trace plan (Err fault.Write) rows old mid text cut wrote = wrote

whole_out : (trace : Bool) (plan : SystemPlan) (answer : Result Verdict CaptureFault) (rows : List SeenRow)
    (old mid new : Option (List ℕ)) (text : List ℕ) → is_cut answer ≡ false
    → WroteBy trace plan answer rows old mid text → Appends mid new text → IsOut trace plan answer rows old new
whole_out trace plan (Ok v) rows old mid new text cut wrote written =
    wrote_all (IsToldBy trace plan v rows) old mid text wrote new written
whole_out trace plan (Err (fault.Header line)) rows old mid new text cut wrote written = wrote
whole_out trace plan (Err (fault.TooLong line)) rows old mid new text cut wrote written =
    wrote_all (IsToldEarlier trace plan rows) old mid text wrote new written
whole_out trace plan (Err (fault.Row line why)) rows old mid new text cut wrote written =
    wrote_all (IsToldEarlier trace plan rows) old mid text wrote new written
whole_out trace plan (Err fault.Read) rows old mid new text cut wrote written =
    wrote_all (IsToldEarlier trace plan rows) old mid text wrote new written
whole_out trace plan (Err fault.Memory) rows old mid new text cut wrote written = absurd (cc)
whole_out trace plan (Err fault.Write) rows old mid new text cut wrote written = absurd (cc)

part_out : (trace : Bool) (plan : SystemPlan) (answer : Result Verdict CaptureFault) (rows : List SeenRow)
    (old mid new : Option (List ℕ)) (text : List ℕ) → is_cut answer ≡ false
    → WroteBy trace plan answer rows old mid text → AppendsPart mid new text
    → WritesPart (IsToldPart trace plan rows) old new
part_out trace plan (Ok v) rows old mid new text cut wrote front =
    wrote_part (IsToldBy trace plan v rows) old mid text wrote (IsToldPart trace plan rows) new front
    (part_told trace plan rows wrote.told v wrote.holds)
part_out trace plan (Err (fault.Header line)) rows old mid new text cut wrote front = absurd wrote
part_out trace plan (Err (fault.TooLong line)) rows old mid new text cut wrote front =
    wrote_part (IsToldEarlier trace plan rows) old mid text wrote
    (IsToldPart trace plan rows) new front wrote.holds.part
part_out trace plan (Err (fault.Row line why)) rows old mid new text cut wrote front =
    wrote_part (IsToldEarlier trace plan rows) old mid text wrote
    (IsToldPart trace plan rows) new front wrote.holds.part
part_out trace plan (Err fault.Read) rows old mid new text cut wrote front =
    wrote_part (IsToldEarlier trace plan rows) old mid text wrote
    (IsToldPart trace plan rows) new front wrote.holds.part
part_out trace plan (Err fault.Memory) rows old mid new text cut wrote front = absurd (cc)
part_out trace plan (Err fault.Write) rows old mid new text cut wrote front = absurd (cc)

-- ---- the whole

-- what the contract says of an answer, at the place where the text begins
pub record Says (asked trace : Bool) (plan : SystemPlan) (buses : LinkBuses) (old new : Option (List ℕ))
    (answer : Result Verdict CaptureFault) (from : TextPlace) : Type 0 where
  pub verdict : IfOk answer (IsVerdict asked plan buses from)
  pub fault : IfErr answer (IsFault plan buses from)
  pub written : IsWritten asked trace plan buses from old new answer

-- an answer after the header and some rows
says_behind : (asked trace : Bool) (plan : SystemPlan) (buses : LinkBuses) (old new : Option (List ℕ))
    (answer : Result Verdict CaptureFault) (from : TextPlace)
    → IsWrittenOf asked trace plan buses from old new answer → Says asked trace plan buses old new answer from
says_behind asked trace plan buses old new (Ok (verdict.Lawful counts)) from is = record {
  verdict = (
    is.rows,
    record { last = is.at; end = is.answers.0.0; begins = is.begins; ends = is.answers.0.1 },
    is.answers.1,
    is.answers.2,
    is.answers.3,
  );
  fault = tt;
  written = is;
}
says_behind asked trace plan buses old new (Ok (verdict.Incomplete left)) from is = record {
  verdict = (
    is.rows,
    record { last = is.at; end = is.answers.0.0; begins = is.begins; ends = is.answers.0.1 },
    is.answers.1,
    is.answers.2,
  );
  fault = tt;
  written = is;
}
says_behind asked trace plan buses old new (Ok (verdict.Unlawful found)) from is = record {
  verdict = (is.rows, is.at, is.begins, is.answers.0, is.answers.1);
  fault = tt;
  written = is;
}
says_behind asked trace plan buses old new (Err (fault.Header line)) from is = absurd is.answers
says_behind asked trace plan buses old new (Err (fault.TooLong line)) from is =
    record { verdict = tt; fault = inr (is.rows, is.at, is.begins, is.answers); written = inr is }
says_behind asked trace plan buses old new (Err (fault.Row line why)) from is =
    record { verdict = tt; fault = (is.rows, is.at, is.answers.0, is.begins, is.answers.1); written = is }
says_behind asked trace plan buses old new (Err fault.Read) from is = record { verdict = tt; fault = tt; written = inr is }
says_behind asked trace plan buses old new (Err fault.Memory) from is = record { verdict = tt; fault = tt; written = inr is }
says_behind asked trace plan buses old new (Err fault.Write) from is = record { verdict = tt; fault = tt; written = is }

finished : (trace : Bool) (plan : SystemPlan) (buses : LinkBuses) (from behind : TextPlace) (old mid new : Option (List ℕ))
    (text : List ℕ) (answer result : Result Verdict CaptureFault) (first : JudgeView) (tally : Tally)
    → is_traced first ≡ trace → Judges plan [] first → HasHeader from behind
    → IsJudgedAt buses first tally old mid text answer behind → Finishes mid new text answer result
    → IsWrittenOf (is_asked first) trace plan buses from old new result
finished trace plan buses from behind old mid new text answer result first tally traced start top judged (inl cut) =
    let P : Result Verdict CaptureFault → Type 0 = λ r. IsWrittenOf (is_asked first) trace plan buses from old new r in
    subst P (sym cut.1) (record {
      rows = judged.rows;
      at = judged.last;
      begins = record { behind = behind; top = top; has = judged.has };
      answers = judged.answers plan start;
      out = subst (λ (o : Option (List ℕ)). IsOut trace plan answer judged.rows old o) (sym cut.2)
          (cut_out trace plan answer judged.rows old mid text cut.0
          (subst (λ t. WroteBy t plan answer judged.rows old mid text) traced (judged.told plan start)));
    })
finished trace plan buses from behind old mid new text answer result first tally traced start top judged (inr whole) =
    go whole.1
  where
    wrote : WroteBy trace plan answer judged.rows old mid text
    wrote = subst (λ t. WroteBy t plan answer judged.rows old mid text) traced (judged.told plan start)

    go : ((result ≡ answer) × Appends mid new text) ⊎ ((result ≡ Err fault.Write) × AppendsPart mid new text)
        → IsWrittenOf (is_asked first) trace plan buses from old new result
    go (inl all) =
        let P : Result Verdict CaptureFault → Type 0 = λ r. IsWrittenOf (is_asked first) trace plan buses from old new r in
        subst P (sym all.0) (record {
          rows = judged.rows;
          at = judged.last;
          begins = record { behind = behind; top = top; has = judged.has };
          answers = judged.answers plan start;
          out = whole_out trace plan answer judged.rows old mid new text whole.0 wrote all.1;
        })
    go (inr front) =
        let P : Result Verdict CaptureFault → Type 0 = λ r. IsWrittenOf (is_asked first) trace plan buses from old new r in
        subst P (sym front.0) (record {
          rows = judged.rows;
          at = judged.last;
          begins = record { behind = behind; top = top; has = judged.has };
          answers = tt;
          out = part_out trace plan answer judged.rows old mid new text whole.0 wrote front.1;
        })

pub says_judged : (plan : SystemPlan) (buses : LinkBuses) (a b : TextLeft) (old mid new : Option (List ℕ)) (text : List ℕ)
    (answer result : Result Verdict CaptureFault) (first : JudgeView) (tally : Tally)
    → Judges plan [] first → Between a b HasHeader → IsJudged buses first tally old mid text b answer
    → Finishes mid new text answer result
    → IfSome a.text (λ t. Says (is_asked first) (is_traced first) plan buses old new result (record { line = a.line; text = t }))
says_judged plan buses a b old mid new text answer result first tally start header judged finishes =
    behind_start a b HasHeader (IsJudgedAt buses first tally old mid text answer)
    (Says (is_asked first) (is_traced first) plan buses old new result)
    (λ x y top is. says_behind (is_asked first) (is_traced first) plan buses old new result x
    (finished (is_traced first) plan buses x y old mid new text answer result first tally refl start top is finishes))
    header judged

-- ---- what was counted

-- the rows of an answer are those that it is of
are_judged : (asked : Bool) (plan : SystemPlan) (buses : LinkBuses) (v : Verdict) (rows : List SeenRow) (at : TextPlace)
    → IsAnswer asked plan buses (Ok v) rows at → AreJudged buses v rows at
are_judged asked plan buses (verdict.Lawful counts) rows at is = is.0
are_judged asked plan buses (verdict.Incomplete left) rows at is = is.0
are_judged asked plan buses (verdict.Unlawful found) rows at is = is.0

covered_behind : (plan : SystemPlan) (buses : LinkBuses) (from behind : TextPlace) (old mid : Option (List ℕ)) (text : List ℕ)
    (answer : Result Verdict CaptureFault) (first : JudgeView) (tally : Tally) → Judges plan [] first
    → HasHeader from behind → IsJudgedAt buses first tally old mid text answer behind
    → IfOk answer (IsCovered plan buses from tally)
covered_behind plan buses from behind old mid text (Ok v) first tally start top judged = record {
  rows = judged.rows;
  at = judged.last;
  begins = record { behind = behind; top = top; has = judged.has };
  judged = are_judged (is_asked first) plan buses v judged.rows judged.last (judged.answers plan start);
  holds = judged.covered plan start;
}
covered_behind plan buses from behind old mid text (Err why) first tally start top judged = tt

-- an answer that is given in the end is the one before it, or a write failed
covered_finished : (P : Verdict → Type 0) (mid new : Option (List ℕ)) (text : List ℕ)
    (answer result : Result Verdict CaptureFault) → Finishes mid new text answer result → IfOk answer P → IfOk result P
covered_finished P mid new text answer result (inl cut) is = subst (λ r. IfOk r P) (sym cut.1) is
covered_finished P mid new text answer result (inr whole) is = go whole.1
  where
    go : ((result ≡ answer) × Appends mid new text) ⊎ ((result ≡ Err fault.Write) × AppendsPart mid new text)
        → IfOk result P
    go (inl all) = subst (λ r. IfOk r P) (sym all.0) is
    go (inr front) = subst (λ r. IfOk r P) (sym front.0) tt

pub covered_judged : (plan : SystemPlan) (buses : LinkBuses) (a b : TextLeft) (old mid new : Option (List ℕ)) (text : List ℕ)
    (answer result : Result Verdict CaptureFault) (first : JudgeView) (tally : Tally)
    → Judges plan [] first → Between a b HasHeader → IsJudged buses first tally old mid text b answer
    → Finishes mid new text answer result
    → IfSome a.text (λ t. IfOk result (IsCovered plan buses (record { line = a.line; text = t }) tally))
covered_judged plan buses a b old mid new text answer result first tally start header judged finishes =
    behind_start a b HasHeader (IsJudgedAt buses first tally old mid text answer)
    (λ from. IfOk result (IsCovered plan buses from tally))
    (λ x y top is. covered_finished (IsCovered plan buses x tally) mid new text answer result finishes
    (covered_behind plan buses x y old mid text answer first tally start top is)) header judged

-- is said of the start of what a reader gives
pub told : (known : Option (List ℕ)) (a : TextLeft) (Q : TextPlace → Type 0) → Keeps (option_map strip_bom known) a.text
    → a.line ≡ 1
    → IfSome a.text (λ text. Q (record { line = a.line; text = text })) → IfSome known (λ text. Q (text_start text))
told known a Q keeps line_is holds = go known a.text keeps holds
  where
    go : (known from : Option (List ℕ)) → Keeps (option_map strip_bom known) from
        → IfSome from (λ text. Q (record { line = a.line; text = text }))
        → IfSome known (λ text. Q (text_start text))
    go None from keeps holds = tt
    go (Some text) None keeps holds = absurd keeps
    go (Some text) (Some from) keeps holds = rw (← line_is, ← keeps) holds

-- and so each clause
module _ (asked trace : Bool) (plan : SystemPlan) (buses : LinkBuses) (old new : Option (List ℕ)) (known : Option (List ℕ)) where
  pub says_verdict : (answer : Result Verdict CaptureFault)
      → IfSome known (λ text. Says asked trace plan buses old new answer (text_start text))
      → IfOk answer (λ v. IfSome known (λ text. IsVerdict asked plan buses (text_start text) v))
  says_verdict (Ok v) says = go known says
    where
      go : (known : Option (List ℕ)) → IfSome known (λ text. Says asked trace plan buses old new (Ok v) (text_start text))
          → IfSome known (λ text. IsVerdict asked plan buses (text_start text) v)
      go None says = tt
      go (Some text) says = says.verdict
  says_verdict (Err why) says = tt

  pub says_fault : (answer : Result Verdict CaptureFault)
      → IfSome known (λ text. Says asked trace plan buses old new answer (text_start text))
      → IfErr answer (λ why. IfSome known (λ text. IsFault plan buses (text_start text) why))
  says_fault (Ok v) says = tt
  says_fault (Err why) says = go known says
    where
      go : (known : Option (List ℕ)) → IfSome known (λ text. Says asked trace plan buses old new (Err why) (text_start text))
          → IfSome known (λ text. IsFault plan buses (text_start text) why)
      go None says = tt
      go (Some text) says = says.fault

  pub says_written : (answer : Result Verdict CaptureFault)
      → IfSome known (λ text. Says asked trace plan buses old new answer (text_start text))
      → IfSome known (λ text. IsWritten asked trace plan buses (text_start text) old new answer)
  says_written answer says = go known says
    where
      go : (known : Option (List ℕ)) → IfSome known (λ text. Says asked trace plan buses old new answer (text_start text))
          → IfSome known (λ text. IsWritten asked trace plan buses (text_start text) old new answer)
      go None says = tt
      go (Some text) says = says.written

pub says_covered : (plan : SystemPlan) (buses : LinkBuses) (tally : Tally) (known : Option (List ℕ))
    (answer : Result Verdict CaptureFault) → IfSome known (λ text. IfOk answer (IsCovered plan buses (text_start text) tally))
    → IfOk answer (λ v. IfSome known (λ text. IsCovered plan buses (text_start text) tally v))
says_covered plan buses tally known (Err why) says = tt
says_covered plan buses tally None (Ok v) says = tt
says_covered plan buses tally (Some text) (Ok v) says = says
