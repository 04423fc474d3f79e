-- One row after another, and what they come to.
use Rattle.std.proofs.KnownBytes.{Appends-nil}
use Rattle.std.proofs.Common.{◌≡◌, ◌∙◌, ℕ, inl, inr, true, false, List, [], ◌∷◌, ◌++◌, Option, Some, None, Err, IfSome, refl, sym, subst}
use Rattle.check_rows.specs.Row.{SeenRow}
use Rattle.check_rows.specs.declared.fault.RowFault.{RowFault}
use Rattle.check_review.specs.Order.{HasRowFault, IsLater}
use Rattle.check_review.specs.Verdict.{IsFirstUnlawful, IsStop, IsToldBefore, IsToldEarlier, IsToldPart, SystemPlan}
use Rattle.check_review.specs.Covered.{CoversStop, IsCoveredBefore}
use Rattle.check_review.specs.View.{HasTold, Judges, TellsStop, is_traced, JudgeView}
use Rattle.check_review.specs.declared.stop.Stop.{Stop}
use Rattle.check_review.specs.declared.stop.Stop.TheVariants as stop
use Rattle.check_review.specs.declared.stop.Unlawful.{Unlawful}
use Rattle.check_review.specs.declared.tally.Tally.{Tally}
use Rattle.check_review.proofs.Judging.{told_earlier, told_none}
use Rattle.check_records.specs.Reading.{StopsLong}
use Rattle.check_records.specs.Source.{Between, TextLeft}
use Rattle.check_records.specs.Text.{GivesRecord, IsTooLong, TextPlace, Reads, RecordRow as Record}
use Rattle.check_records.specs.declared.fault.RecordFault.{RecordFault}
use Rattle.check_records.specs.declared.fault.RecordFault.TheVariants as record_fault
use Rattle.check_records.proofs.Chain.{reads-more}
use Rattle.check_records.proofs.KnownLemmas.{between-trans}
use Rattle.tl_streams.specs.Streams.{AppendsPart}
use Rattle.check_text.specs.Fault.{of_record}
use Rattle.check_text.specs.Out.{Moves, WritesFront}
use Rattle.check_text.specs.Rows.{AllTaken, GivesRow, HasNoRow, HasRows, IsJudged, IsJudgedAt, IsUnlawfulBefore, SpellAll, SpellsCapture, StopsAt, TakesNext, TellsBefore, Took, TookRows, answer_of, halt_of}
use Rattle.check_text.specs.declared.fault.CaptureFault.TheVariants as fault
use Rattle.check_text.specs.declared.rows.Halt.{Halt}
use Rattle.check_text.specs.declared.rows.Halt.TheVariants as halt
use Rattle.check_text.specs.Buses.{LinkBuses, row_on}
use Rattle.check_text.proofs.OutLemmas.{wrote_as, wrote_more, wrote_moved, wrote_none, wrote_part, wrote_so_far}

spell_more : (buses : LinkBuses) (records : List Record) (rows : List SeenRow) (r : Record) (row : SeenRow)
    → SpellAll buses records rows → SpellsCapture buses r row
    → SpellAll buses (records ++ r ∷ []) (rows ++ row ∷ [])
spell_more buses [] [] r row all one = (one, tt)
spell_more buses [] (x ∷ rows) r row all one = absurd all
spell_more buses (q ∷ records) [] r row all one = absurd all
spell_more buses (q ∷ records) (x ∷ rows) r row all one = (all.0, spell_more buses records rows r row all.1 one)

rows_more : (buses : LinkBuses) (rows : List SeenRow) (row : SeenRow) (from at to : TextPlace) → HasRows buses rows from at
    → GivesRow buses row at to
    → HasRows buses (rows ++ row ∷ []) from to
rows_more buses rows row from at to has next = record {
  records = has.records ++ next.next ∷ [];
  reads = reads-more from at to has.records next.next has.reads next.gives;
  spell = spell_more buses has.records rows next.next row has.spell next.spells;
}

no_rows : (buses : LinkBuses) (from : TextPlace) → HasRows buses [] from from
unfolding Reads
no_rows buses from = record { records = []; reads = refl; spell = tt }

-- a place that is left as it is
between_same : (a : TextLeft) (P : TextPlace → TextPlace → Type 0) → ((x : TextPlace) → P x x) → Between a a P
between_same a P all = go a.text
  where
    go : (text : Option (List ℕ)) → Between (record { line = a.line; text = text })
        (record { line = a.line; text = text }) P
    go None = tt
    go (Some text) = all (record { line = a.line; text = text })

-- what follows from a relation between two places
pub between_map : (a b : TextLeft) (P Q : TextPlace → TextPlace → Type 0) → ((x y : TextPlace) → P x y → Q x y) → Between a b P
    → Between a b Q
between_map a b P Q maps holds = go a.text b.text holds
  where
    go : (from to : Option (List ℕ)) → Between (record { line = a.line; text = from })
        (record { line = b.line; text = to }) P
        → Between (record { line = a.line; text = from }) (record { line = b.line; text = to }) Q
    go None to holds = tt
    go (Some from) None holds = absurd holds
    go (Some from) (Some to) holds =
        maps (record { line = a.line; text = from }) (record { line = b.line; text = to }) holds

-- what is said of the place where a text begins
pub at_start : (a c : TextLeft) (Q : TextPlace → Type 0) → Between a c (λ from to. Q from)
    → IfSome a.text (λ text. Q (record { line = a.line; text = text }))
at_start a c Q holds = go a.text c.text holds
  where
    go : (from to : Option (List ℕ)) → Between (record { line = a.line; text = from })
        (record { line = c.line; text = to }) (λ from to. Q from)
        → IfSome from (λ text. Q (record { line = a.line; text = text }))
    go None to holds = tt
    go (Some from) None holds = absurd holds
    go (Some from) (Some to) holds = holds

-- what is said of two places, and of the text at the second
pub behind_start : (a b : TextLeft) (P : TextPlace → TextPlace → Type 0) (Q : TextPlace → Type 0) (S : TextPlace → Type 0)
    → ((x y : TextPlace) → P x y → Q y → S x) → Between a b P
    → IfSome b.text (λ text. Q (record { line = b.line; text = text }))
    → IfSome a.text (λ text. S (record { line = a.line; text = text }))
behind_start a b P Q S join one two = go a.text b.text one two
  where
    go : (from to : Option (List ℕ)) → Between (record { line = a.line; text = from })
        (record { line = b.line; text = to }) P
        → IfSome to (λ text. Q (record { line = b.line; text = text }))
        → IfSome from (λ text. S (record { line = a.line; text = text }))
    go None to one two = tt
    go (Some from) None one two = absurd one
    go (Some from) (Some to) one two =
        join (record { line = a.line; text = from }) (record { line = b.line; text = to }) one two

-- ---- one row

module _ (buses : LinkBuses) (r : Record) (row : SeenRow) (spells : SpellsCapture buses r row) (a b : TextLeft)
    (gives : Between a b (λ from to. GivesRecord from r to)) where
  pub row_taken : (old new : JudgeView) (text grown : List ℕ) → Took old row new text grown
      → Between a b (TakesNext buses old new text grown true)
  row_taken old new text grown took =
      between_map a b (λ from to. GivesRecord from r to) (TakesNext buses old new text grown true)
      (λ x y g. (row, record { next = r; gives = g; spells = spells }, took)) gives

  pub row_refused : (judge : JudgeView) (tally : Tally) (text grown : List ℕ) (why : RowFault)
      → ((plan : SystemPlan) (rows : List SeenRow) (so_far : List ℕ) → HasTold plan rows judge so_far → HasRowFault rows row why
      × (grown ≡ text))
      → StopsAt buses judge tally text grown a b (halt.Fault (fault.Row r.line why))
  row_refused judge tally text grown why refused =
      between_map a b (λ from to. GivesRecord from r to)
      (λ from to. (plan : SystemPlan) (rows : List SeenRow) (so_far : List ℕ) → HasTold plan rows judge so_far
      → HasNoRow buses rows r.line why from to × (grown ≡ text))
      (λ x y g plan rows so_far has. let is = refused plan rows so_far has in
      (record { next = r; gives = g; on_line = refl; no_row = inr (row, spells, is.0) }, is.1)) gives

  pub row_unlawful : (judge : JudgeView) (tally : Tally) (text grown : List ℕ) (found : Unlawful)
      → ((plan : SystemPlan) (rows : List SeenRow) (so_far : List ℕ) → HasTold plan rows judge so_far
      → (IsLater rows row × IsFirstUnlawful plan rows found) × IsCoveredBefore plan rows tally found
      × TellsBefore (is_traced judge) plan rows so_far text grown found)
      → StopsAt buses judge tally text grown a b (halt.Unlawful found)
  row_unlawful judge tally text grown found unlawful =
      between_map a b (λ from to. GivesRecord from r to)
      (λ from to. (plan : SystemPlan) (rows : List SeenRow) (so_far : List ℕ) → HasTold plan rows judge so_far
      → IsUnlawfulBefore plan buses rows found from to × IsCoveredBefore plan rows tally found
      × TellsBefore (is_traced judge) plan rows so_far text grown found)
      (λ x y g plan rows so_far has. let is = unlawful plan rows so_far has in (
        record {
          row = row;
          next = record { next = r; gives = g; spells = spells };
          later = is.0.0;
          first = is.0.1;
        },
        is.1,
        is.2,
      )) gives

  -- the judge refuses it
  pub row_stops : (judge : JudgeView) (tally : Tally) (text grown : List ℕ) (why : Stop)
      → ((plan : SystemPlan) (rows : List SeenRow) (so_far : List ℕ) → HasTold plan rows judge so_far
      → IsStop plan rows row why × CoversStop plan rows tally why
      × TellsStop (is_traced judge) plan rows so_far text grown why)
      → StopsAt buses judge tally text grown a b (halt_of r.line why)
  row_stops judge tally text grown (stop.Row kind) stops =
      row_refused judge tally text grown kind
      (λ plan rows so_far has. let is = stops plan rows so_far has in (is.0, is.2))
  row_stops judge tally text grown (stop.Beat found) stops = row_unlawful judge tally text grown found stops
  row_stops judge tally text grown stop.Memory stops = tt

-- a record that spells no row
pub no_row : (buses : LinkBuses) (r : Record) (why : RowFault) (a b : TextLeft) (judge : JudgeView) (tally : Tally) (text : List ℕ)
    → Between a b (λ from to. GivesRecord from r to)
    → row_on buses r.line r.fields ≡ Err why
    → StopsAt buses judge tally text text a b (halt.Fault (fault.Row r.line why))
no_row buses r why a b judge tally text gives is =
    between_map a b (λ from to. GivesRecord from r to)
    (λ from to. (plan : SystemPlan) (rows : List SeenRow) (so_far : List ℕ) → HasTold plan rows judge so_far
    → HasNoRow buses rows r.line why from to × (text ≡ text))
    (λ x y g plan rows so_far has. (record { next = r; gives = g; on_line = refl; no_row = inl is }, refl)) gives

-- a record that is not read
pub read_stops : (buses : LinkBuses) (judge : JudgeView) (tally : Tally) (text : List ℕ) (a b : TextLeft) (why : RecordFault)
    → ((line : ℕ) → why ≡ record_fault.TooLong line → StopsLong a line)
    → StopsAt buses judge tally text text a b (halt.Fault (of_record why))
read_stops buses judge tally text a b (record_fault.TooLong line) long = (long line refl, refl)
read_stops buses judge tally text a b record_fault.Read long = refl
read_stops buses judge tally text a b record_fault.Memory long = tt

-- ---- the loop

module _ (buses : LinkBuses) (first : JudgeView) (old : Option (List ℕ)) where
  pub took_none : (a : TextLeft) → Between a a (TookRows buses first first old old [])
  took_none a = between_same a (TookRows buses first first old old []) (λ x. record {
    rows = [];
    has = no_rows buses x;
    traced = refl;
    asked = refl;
    told = λ plan start. wrote_none (HasTold plan [] first) old (told_none plan first start);
  })

  -- a row more, and the text grows; and then a front of it is written
  pub took_more : (now next : JudgeView) (mid new : Option (List ℕ)) (text grown left : List ℕ) (a b c : TextLeft)
      → Between a b (TookRows buses first now old mid text)
      → Between b c (TakesNext buses now next text grown true) → Moves mid new grown left
      → Between a c (TookRows buses first next old new left)
  took_more now next mid new text grown left a b c so_far one moves =
      between-trans a b c (TookRows buses first now old mid text) (TakesNext buses now next text grown true)
      (TookRows buses first next old new left) (λ x y z took more. record {
        rows = took.rows ++ more.0 ∷ [];
        has = rows_more buses took.rows more.0 x y z took.has more.1;
        traced = more.2.traced ∙ took.traced;
        asked = more.2.asked ∙ took.asked;
        told = λ plan start.
            let wrote = took.told plan start in
            let on = more.2.tells plan took.rows wrote.told wrote.holds in
            wrote_moved (HasTold plan (took.rows ++ more.0 ∷ []) next) old mid grown
            (wrote_more (HasTold plan took.rows now) old mid text wrote
            (HasTold plan (took.rows ++ more.0 ∷ []) next) on.more grown on.grown on.told)
            new left moves;
      }) so_far one

  -- a row more, of which nothing is told
  pub took_quietly : (now next : JudgeView) (mid : Option (List ℕ)) (text : List ℕ) (a b c : TextLeft) (r : Record) (row : SeenRow)
      → Between a b (TookRows buses first now old mid text) → Between b c (λ from to. GivesRecord from r to)
      → SpellsCapture buses r row → Took now row next text text → Between a c (TookRows buses first next old mid text)
  took_quietly now next mid text a b c r row so_far gives spells took =
      took_more now next mid mid text text text a b c so_far (row_taken buses r row spells b c gives now next text text took)
      (record { front = []; is = refl; written = Appends-nil mid })

  pub took_all : (now next : JudgeView) (mid : Option (List ℕ)) (text grown : List ℕ) (a b c : TextLeft)
      → Between a b (TookRows buses first now old mid text)
      → Between b c (TakesNext buses now next text grown false) → Between a c (AllTaken buses first next old mid grown)
  took_all now next mid text grown a b c so_far none =
      between-trans a b c (TookRows buses first now old mid text) (TakesNext buses now next text grown false)
      (AllTaken buses first next old mid grown)
      (λ x y z took ends.
      let by_judge = subst (λ (j : JudgeView). TookRows buses first j old mid text x y) (sym ends.1) took in
      (y, subst (λ (t : List ℕ). TookRows buses first next old mid t x y) (sym ends.2) by_judge, ends.0)) so_far none

  -- what is told of earlier times, and a part of a file
  earlier : (plan : SystemPlan) (rows : List SeenRow) (now : JudgeView) (text : List ℕ) → is_traced now ≡ is_traced first
      → HasTold plan rows now text → IsToldEarlier (is_traced first) plan rows text
  earlier plan rows now text traced has =
      subst (λ t. IsToldEarlier t plan rows text) traced (told_earlier plan rows now text has)

  -- a write fails
  pub fails : (tally : Tally) (now next : JudgeView) (mid new : Option (List ℕ)) (text grown left : List ℕ) (a b c : TextLeft)
      → Between a b (TookRows buses first now old mid text)
      → Between b c (TakesNext buses now next text grown true) → AppendsPart mid new grown
      → IsJudged buses first tally old new left a (Err fault.Write)
  fails tally now next mid new text grown left a b c so_far one front =
      at_start a c (IsJudgedAt buses first tally old new left (Err fault.Write))
      (between-trans a b c (TookRows buses first now old mid text) (TakesNext buses now next text grown true)
      (λ from to. IsJudgedAt buses first tally old new left (Err fault.Write) from) (λ x y z took more. record {
        rows = took.rows ++ more.0 ∷ [];
        last = z;
        has = rows_more buses took.rows more.0 x y z took.has more.1;
        answers = λ plan start. tt;
        covered = λ plan start. tt;
        told = λ plan start.
            let wrote = took.told plan start in
            let rows = took.rows ++ more.0 ∷ [] in
            let on = more.2.tells plan took.rows wrote.told wrote.holds in
            let is = wrote_more (HasTold plan took.rows now) old mid text wrote
            (HasTold plan rows next) on.more grown on.grown on.told in
            wrote_part (HasTold plan rows next) old mid grown is (IsToldPart (is_traced first) plan rows) new front
            (earlier plan rows next is.told (more.2.traced ∙ took.traced) is.holds).part;
      }) so_far one)

  -- the rows so far, with whatever stands after them
  rest : (now : JudgeView) (mid : Option (List ℕ)) (text : List ℕ) (a b : TextLeft) (S : TextPlace → Type 0)
      → Between a b (TookRows buses first now old mid text)
      → ((x y : TextPlace) → TookRows buses first now old mid text x y → S x)
      → IfSome a.text (λ t. S (record { line = a.line; text = t }))
  rest now mid text a b S so_far to =
      at_start a b S (between_map a b (TookRows buses first now old mid text) (λ from at. S from) to so_far)

  pub read_fails : (tally : Tally) (now : JudgeView) (mid : Option (List ℕ)) (text grown : List ℕ) (a b : TextLeft)
      → Between a b (TookRows buses first now old mid text) → grown ≡ text
      → IsJudged buses first tally old mid grown a (Err fault.Read)
  read_fails tally now mid text grown a b so_far same =
      rest now mid text a b (IsJudgedAt buses first tally old mid grown (Err fault.Read)) so_far (λ x y took. record {
        rows = took.rows;
        last = y;
        has = took.has;
        answers = λ plan start. tt;
        covered = λ plan start. tt;
        told = λ plan start.
            let wrote = took.told plan start in
            wrote_as (HasTold plan took.rows now) old mid text wrote
            (IsToldEarlier (is_traced first) plan took.rows) grown same
            (earlier plan took.rows now wrote.told took.traced wrote.holds);
      })

  so_far_part : (now : JudgeView) (mid : Option (List ℕ)) (text : List ℕ) (x y : TextPlace)
      (took : TookRows buses first now old mid text x y) (plan : SystemPlan) → Judges plan [] first
      → WritesFront (IsToldPart (is_traced first) plan took.rows) old mid
  so_far_part now mid text x y took plan start =
      let wrote = took.told plan start in
      wrote_so_far (HasTold plan took.rows now) old mid text wrote (IsToldPart (is_traced first) plan took.rows)
      (earlier plan took.rows now wrote.told took.traced wrote.holds).part

  pub halts : (tally : Tally) (now : JudgeView) (mid : Option (List ℕ)) (text grown : List ℕ) (a b c : TextLeft) (why : Halt)
      → Between a b (TookRows buses first now old mid text)
      → StopsAt buses now tally text grown b c why → IsJudged buses first tally old mid grown a (answer_of why)
  halts tally now mid text grown a b c (halt.Unlawful found) so_far stop =
      at_start a c (IsJudgedAt buses first tally old mid grown (answer_of (halt.Unlawful found)))
      (between-trans a b c (TookRows buses first now old mid text)
      (λ from to. (plan : SystemPlan) (rows : List SeenRow) (told : List ℕ) → HasTold plan rows now told
      → IsUnlawfulBefore plan buses rows found from to × IsCoveredBefore plan rows tally found
      × TellsBefore (is_traced now) plan rows told text grown found)
      (λ from to. IsJudgedAt buses first tally old mid grown (answer_of (halt.Unlawful found)) from)
      (λ x y z took stopped. record {
        rows = took.rows;
        last = y;
        has = took.has;
        answers = λ plan start.
            let wrote = took.told plan start in
            let is = (stopped plan took.rows wrote.told wrote.holds).0 in
            (inr (is.row, z, is.next, is.later), is.first);
        covered = λ plan start. let wrote = took.told plan start in (stopped plan took.rows wrote.told wrote.holds).1;
        told = λ plan start.
            let wrote = took.told plan start in
            let tells = (stopped plan took.rows wrote.told wrote.holds).2 in
            wrote_more (HasTold plan took.rows now) old mid text wrote
            (λ t. IsToldBefore (is_traced first) plan took.rows t found) tells.0 grown tells.1
            (subst (λ t. IsToldBefore t plan took.rows (wrote.told ++ tells.0) found) took.traced tells.2);
      }) so_far stop)
  halts tally now mid text grown a b c (halt.Fault (fault.Row line kind)) so_far stop =
      at_start a c (IsJudgedAt buses first tally old mid grown (Err (fault.Row line kind)))
      (between-trans a b c (TookRows buses first now old mid text)
      (λ from to. (plan : SystemPlan) (rows : List SeenRow) (told : List ℕ) → HasTold plan rows now told
      → HasNoRow buses rows line kind from to × (grown ≡ text))
      (λ from to. IsJudgedAt buses first tally old mid grown (Err (fault.Row line kind)) from) (λ x y z took stopped. record {
        rows = took.rows;
        last = y;
        has = took.has;
        answers = λ plan start. let wrote =
            took.told plan start in (z, (stopped plan took.rows wrote.told wrote.holds).0);
        covered = λ plan start. tt;
        told = λ plan start.
            let wrote = took.told plan start in
            wrote_as (HasTold plan took.rows now) old mid text wrote
            (IsToldEarlier (is_traced first) plan took.rows) grown (stopped plan took.rows wrote.told wrote.holds).1
            (earlier plan took.rows now wrote.told took.traced wrote.holds);
      }) so_far stop)
  halts tally now mid text grown a b c (halt.Fault (fault.TooLong line)) so_far stop =
      behind_start a b (TookRows buses first now old mid text) (λ at. IsTooLong at line)
      (IsJudgedAt buses first tally old mid grown (Err (fault.TooLong line))) (λ x y took long. record {
        rows = took.rows;
        last = y;
        has = took.has;
        answers = λ plan start. long;
        covered = λ plan start. tt;
        told = λ plan start.
            let wrote = took.told plan start in
            wrote_as (HasTold plan took.rows now) old mid text wrote
            (IsToldEarlier (is_traced first) plan took.rows) grown stop.1
            (earlier plan took.rows now wrote.told took.traced wrote.holds);
      }) so_far stop.0
  halts tally now mid text grown a b c (halt.Fault (fault.Header line)) so_far stop = absurd stop
  halts tally now mid text grown a b c (halt.Fault fault.Read) so_far stop = read_fails tally now mid text grown a b so_far stop
  halts tally now mid text grown a b c (halt.Fault fault.Memory) so_far stop =
      rest now mid text a b (IsJudgedAt buses first tally old mid grown (Err fault.Memory)) so_far (λ x y took. record {
        rows = took.rows;
        last = y;
        has = took.has;
        answers = λ plan start. tt;
        covered = λ plan start. tt;
        told = λ plan start. so_far_part now mid text x y took plan start;
      })
  halts tally now mid text grown a b c (halt.Fault fault.Write) so_far stop = absurd stop
