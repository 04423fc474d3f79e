-- One row after another, and what they come to.
use Rattle.std.proofs.Common.{◌≡◌, ◌∙◌, ◌⊎◌, inl, inr, ℕ, suc, ◌+◌, ◌≤◌, Bool, true, false, List, [], ◌∷◌, ◌++◌, length, Option, Some, None, Result, Ok, Err, IfOk, IfSome, option_map, append_assoc, length-append, ap, arith, refl, subst, sym}
use Rattle.std.proofs.lemmas.Bool.{leb-false, leb-true}
use Rattle.std.proofs.lemmas.List.Elements.{All-nil, All-push, All-weaker, Contains-append_left, Contains-push}
use Rattle.std.specs.Prelude.{nat_lt, if◌then◌else◌}
use Rattle.std.specs.Io.KnownBytes.{Appends}
use Rattle.tl_streams.specs.Streams.{AppendsPart}
use Rattle.check_vcd.specs.Words.{Both}
use Rattle.check_rows.specs.Row.{SeenRow}
use Rattle.check_rows.specs.Column.{column_parts}
use Rattle.check_review.specs.Verdict.{VerdictCounts, HasCounts, HasLeft, IsFirstUnlawful, IsLawfulFile, IsStop, IsToldBefore, IsToldEarlier, IsToldFile, IsToldPart, OfUnlawful, SystemPlan}
use Rattle.check_rows.specs.declared.request.Left.{Left as LeftOver}
use Rattle.check_review.specs.Covered.{CoversStop, IsCoveredBefore, IsCoveredFile}
use Rattle.check_review.specs.Order.{HasRowFault}
use Rattle.check_review.specs.View.{HasTold, JudgeView, Judges, TellsStop, is_asked, is_traced}
use Rattle.check_review.specs.declared.stop.Ending.{Ending}
use Rattle.check_review.specs.declared.stop.Refusal.{Refusal}
use Rattle.check_review.specs.declared.stop.Refusal.TheVariants as refusal
use Rattle.check_review.specs.declared.stop.Stop.{Stop}
use Rattle.check_review.specs.declared.stop.Stop.TheVariants as stop
use Rattle.check_review.specs.declared.tally.Tally.{Tally}
use Rattle.check_review.proofs.Judging.{part_before, part_of_file, told_earlier, told_none}
use Rattle.check_samples.specs.Left.{End, RowsLeft}
use Rattle.check_samples.specs.declared.channel.UnknownBit.{UnknownBit}
use Rattle.check_text.specs.Buses.{LinkBuses, row_on}
use Rattle.check_text.specs.Out.{Moves, WritesPart, Wrote}
use Rattle.check_text.specs.Rows.{IsToldBy, Took}
use Rattle.check_text.specs.declared.fault.Verdict.{Verdict}
use Rattle.check_text.specs.declared.fault.Verdict.TheVariants as verdict
use Rattle.check_text.proofs.OutLemmas.{wrote_all, wrote_as, wrote_more, wrote_moved, wrote_none, wrote_part, wrote_so_far}
use Rattle.check_dump.specs.Lines.{AreRowLines, HasNoLine, HasNoLineEnd, SpellsRow, TakesLine, end_of}
use Rattle.check_dump.specs.Replay.{AllTaken, EndsLater, EndsReplay, IsLatest, IsNoDue, IsReplayAnswer, IsReplayCounted, IsReplayCovered, IsReplayOut, IsReplayed, IsReplayedBy, LineStops, ReplayFinishes, ReplayWrote, TookLines, answer_at, answer_of, answer_refused, halt_of, is_cut_short, later_of, line_after, replay_fault_of}
use Rattle.check_dump.specs.declared.fault.ReplayFault.{ReplayFault}
use Rattle.check_dump.specs.declared.fault.ReplayFault.TheVariants as fault
use Rattle.check_dump.specs.declared.kept.RowsEnd.{RowsEnd}
use Rattle.check_dump.specs.declared.kept.RowsEnd.TheVariants as ends
use Rattle.check_dump.specs.declared.lines.LineFault.{LineFault}
use Rattle.check_dump.specs.declared.lines.LineFault.TheVariants as line_fault
use Rattle.check_dump.specs.declared.replay.Halt.{Halt}
use Rattle.check_dump.specs.declared.replay.Halt.TheVariants as halt
use Rattle.check_dump.specs.declared.replay.Place.{Place}

-- ---- lines

-- a row more, behind all lines
lines_more : (buses : LinkBuses) (number : ℕ) (rows : List SeenRow) (row : SeenRow) (front line : List ℕ)
    → AreRowLines buses number rows front → SpellsRow buses (number + length rows) line row → HasNoLineEnd line
    → AreRowLines buses number (rows ++ row ∷ []) (front ++ (line ++ (10 ∷ [])))
lines_more buses number [] row front line none spells one = (
  line,
  [],
  record { is = ap (λ (l : List ℕ). l ++ (line ++ (10 ∷ []))) none; one = one },
  subst (λ n. SpellsRow buses n line row) (omega arith) spells,
  refl,
)
lines_more buses number (x ∷ rows) row front line lines spells one = (
  lines.0,
  lines.1 ++ (line ++ (10 ∷ [])),
  record {
    is = ap (λ (l : List ℕ). l ++ (line ++ (10 ∷ []))) lines.2.is
        ∙ append_assoc lines.0 (10 ∷ lines.1) (line ++ (10 ∷ []));
    one = lines.2.one;
  },
  lines.3,
  lines_more buses (number + 1) rows row lines.1 line lines.4
      (subst (λ n. SpellsRow buses n line row) (omega arith) spells) one,
)

-- ---- times

latest_more : (latest : Option ℕ) (rows : List SeenRow) (row : SeenRow) → IsLatest latest rows
    → IsLatest (Some (later_of latest row.time)) (rows ++ row ∷ [])
latest_more None rows row none =
    subst (λ (l : List SeenRow). IsLatest (Some row.time) (l ++ row ∷ [])) (sym none) (
      All-push (λ (r : SeenRow). r.time ≤ row.time) [] row (All-nil (λ (r : SeenRow). r.time ≤ row.time)) (omega arith),
      (row, Contains-push [] row, refl),
    )
latest_more (Some before) rows row is = go (nat_lt row.time before) refl
  where
    go : (earlier : Bool) → nat_lt row.time before ≡ earlier
        → IsLatest (Some (if earlier then before else row.time)) (rows ++ row ∷ [])
    go true less = (
      All-push (λ (r : SeenRow). r.time ≤ before) rows row is.0 (omega (arith, leb-true (suc row.time) before less)),
      (is.1.0, Contains-append_left rows (row ∷ []) is.1.0 is.1.1, is.1.2),
    )
    go false less = (
      All-push (λ (r : SeenRow). r.time ≤ row.time) rows row
          (All-weaker (λ (r : SeenRow). r.time ≤ before) (λ (r : SeenRow). r.time ≤ row.time)
          (λ r below. omega (arith, below, leb-false (suc row.time) before less)) rows is.0) (omega arith),
      (row, Contains-push rows row, refl),
    )

-- ---- one row

pub line_stops : (buses : LinkBuses) (number : ℕ) (line : List ℕ) (row : SeenRow) → SpellsRow buses number line row
    → (judge : JudgeView) (tally : Tally) (text grown : List ℕ) (why : Stop)
    → ((plan : SystemPlan) (rows : List SeenRow) (so_far : List ℕ) → HasTold plan rows judge so_far
    → IsStop plan rows row why × CoversStop plan rows tally why × TellsStop (is_traced judge) plan rows so_far text grown why)
    → LineStops buses number line judge tally text grown (halt_of number why)
line_stops buses number line row spells judge tally text grown (stop.Row why) facts =
    (refl, λ plan rows so_far has. let is = facts plan rows so_far has in (inr (row, spells, is.0), is.2))
line_stops buses number line row spells judge tally text grown (stop.Beat found) facts =
    λ plan rows so_far has. let is = facts plan rows so_far has in ((row, spells, is.0.0), is.0.1, is.1, is.2)
line_stops buses number line row spells judge tally text grown stop.Memory facts = tt

-- the line is no row
pub no_due : (buses : LinkBuses) (number : ℕ) (line : List ℕ) (judge : JudgeView) (tally : Tally) (text : List ℕ) (why : Halt)
    → IsNoDue buses number line why → LineStops buses number line judge tally text text why
no_due buses number line judge tally text (halt.Unlawful found) is = absurd is
no_due buses number line judge tally text (halt.Fault (fault.Row on why)) is = (is.0, λ plan rows so_far has. (inl is.1, refl))
no_due buses number line judge tally text (halt.Fault (fault.Edges why)) is = absurd is
no_due buses number line judge tally text (halt.Fault (fault.Unknown unknown)) is = absurd is
no_due buses number line judge tally text (halt.Fault (fault.Dump at mistake)) is = absurd is
no_due buses number line judge tally text (halt.Fault fault.Read) is = absurd is
no_due buses number line judge tally text (halt.Fault fault.Memory) is = tt
no_due buses number line judge tally text (halt.Fault fault.Write) is = absurd is

-- ---- the last rows

-- what is said of rows that are lawful
pub record LawfulEnd (judge : JudgeView) (tally : Tally) (text grown : List ℕ) (ending : Ending) : Type 0 where
  pub lawful : (plan : SystemPlan) (rows : List SeenRow) → Judges plan rows judge → IsLawfulFile plan rows
      × HasCounts plan rows ending.counts × HasLeft (is_asked judge) plan rows ending.left
  pub covers : (plan : SystemPlan) (rows : List SeenRow) → Judges plan rows judge → IsCoveredFile plan rows tally
  pub tells : (plan : SystemPlan) (rows : List SeenRow) (so_far : List ℕ) → HasTold plan rows judge so_far
      → (more : List ℕ) × (grown ≡ text ++ more) × IsToldFile (is_traced judge) plan rows (so_far ++ more)

module _ (judge : JudgeView) (tally : Tally) (text grown : List ℕ) (counts : VerdictCounts) where
  whole_ends : (left : Option LeftOver) (latest : Option ℕ)
      → LawfulEnd judge tally text grown (record { counts = counts; left = left })
      → EndsReplay judge tally ends.Whole latest text grown (answer_at ends.Whole (record { counts = counts; left = left }))
  whole_ends None latest is = record {
    answers = λ plan buses rows at judges. let all = is.lawful plan rows judges in (refl, refl, all.0, all.1, all.2);
    counted = λ plan rows judges. is.covers plan rows judges;
    told = λ plan rows so_far old new has wrote.
        let on = is.tells plan rows wrote.told wrote.holds in
        wrote_more (HasTold plan rows judge) old new text wrote (IsToldFile (is_traced judge) plan rows) on.0 grown on.1 on.2;
  }
  whole_ends (Some over) latest is = record {
    answers = λ plan buses rows at judges. let all = is.lawful plan rows judges in (refl, refl, all.0, all.2);
    counted = λ plan rows judges. is.covers plan rows judges;
    told = λ plan rows so_far old new has wrote.
        let on = is.tells plan rows wrote.told wrote.holds in
        wrote_more (HasTold plan rows judge) old new text wrote (IsToldFile (is_traced judge) plan rows) on.0 grown on.1 on.2;
  }

  pub lawful_ends : (end : RowsEnd) (left : Option LeftOver) (latest : Option ℕ)
      → LawfulEnd judge tally text grown (record { counts = counts; left = left })
      → EndsReplay judge tally end latest text grown (answer_at end (record { counts = counts; left = left }))
  lawful_ends ends.Whole left latest is = whole_ends left latest is
  lawful_ends (ends.WithoutEdges why) left latest is = record {
    answers = λ plan buses rows at judges. (refl, refl, (is.lawful plan rows judges).0);
    counted = λ plan rows judges. tt;
    told = λ plan rows so_far old new has wrote.
        let on = is.tells plan rows wrote.told wrote.holds in
        wrote_more (HasTold plan rows judge) old new text wrote (IsToldFile (is_traced judge) plan rows) on.0 grown on.1 on.2;
  }
  lawful_ends (ends.BeforeBeat unknown) left latest is = record {
    answers = λ plan buses rows at judges. (refl, refl, λ later. (is.lawful plan rows judges).0);
    counted = λ plan rows judges. tt;
    told = λ plan rows so_far old new has wrote.
        let on = is.tells plan rows wrote.told wrote.holds in
        wrote_more (HasTold plan rows judge) old new text wrote (IsToldPart (is_traced judge) plan rows) on.0 grown on.1
        (part_of_file (is_traced judge) plan rows (wrote.told ++ on.0) on.2);
  }
  lawful_ends (ends.BeforeLine line mistake) left latest is = record {
    answers = λ plan buses rows at judges. (refl, refl, (is.lawful plan rows judges).0);
    counted = λ plan rows judges. tt;
    told = λ plan rows so_far old new has wrote.
        let on = is.tells plan rows wrote.told wrote.holds in
        wrote_more (HasTold plan rows judge) old new text wrote (IsToldFile (is_traced judge) plan rows) on.0 grown on.1 on.2;
  }

pub refused_ends : (judge : JudgeView) (tally : Tally) (end : RowsEnd) (latest : Option ℕ) (text grown : List ℕ)
    (why : Refusal) → ((rows : List SeenRow) → IsLatest latest rows → EndsLater (end_of end) rows)
    → ((plan : SystemPlan) (rows : List SeenRow) → Judges plan rows judge → OfUnlawful (IsFirstUnlawful plan rows) why)
    → ((plan : SystemPlan) (rows : List SeenRow) → Judges plan rows judge → OfUnlawful (IsCoveredBefore plan rows tally) why)
    → ((plan : SystemPlan) (rows : List SeenRow) (so_far : List ℕ) → HasTold plan rows judge so_far
    → OfUnlawful (λ found. (more : List ℕ) × (grown ≡ text ++ more)
    × IsToldBefore (is_traced judge) plan rows (so_far ++ more) found) why)
    → EndsReplay judge tally end latest text grown (answer_refused why)
refused_ends judge tally end latest text grown (refusal.Unlawful found) later first covers tells = record {
  answers = λ plan buses rows at judges. (inl (refl, later rows at), first plan rows judges);
  counted = λ plan rows judges. covers plan rows judges;
  told = λ plan rows so_far old new has wrote.
      let on = tells plan rows wrote.told wrote.holds in
      wrote_more (HasTold plan rows judge) old new text wrote (λ t. IsToldBefore (is_traced judge) plan rows t found) on.0 grown
      on.1 on.2;
}
refused_ends judge tally end latest text grown refusal.Memory later first covers tells = record {
  answers = λ plan buses rows at judges. tt;
  counted = λ plan rows judges. tt;
  told = λ plan rows so_far old new has wrote.
      wrote_so_far (HasTold plan rows judge) old new text wrote (IsToldPart (is_traced judge) plan rows)
      (told_earlier plan rows judge wrote.told wrote.holds).part;
}

-- a beat of the last time ends the rows, and those of that time are not judged
pub beat_ends : (judge : JudgeView) (tally : Tally) (end : RowsEnd) (latest : Option ℕ) (text : List ℕ) (unknown : UnknownBit)
    → end ≡ ends.BeforeBeat unknown
    → ((rows : List SeenRow) → IsLatest latest rows → EndsLater (end_of end) rows → ⊥)
    → EndsReplay judge tally end latest text text (Err (fault.Unknown unknown))
beat_ends judge tally end latest text unknown is now = record {
  answers = λ plan buses rows at judges. (refl, ap end_of is, λ later. absurd (now rows at later));
  counted = λ plan rows judges. tt;
  told = λ plan rows so_far old new has wrote.
      wrote_as (HasTold plan rows judge) old new text wrote (IsToldPart (is_traced judge) plan rows) text refl
      (told_earlier plan rows judge wrote.told wrote.holds).part;
}

-- ---- the loop

module _ (buses : LinkBuses) (first : JudgeView) (old : Option (List ℕ)) where
  pub took_none : (left : Option RowsLeft) (place : Place) → place ≡ record { latest = None; number = 2 }
      → Both left left (TookLines buses first first place old old [])
  took_none None place at = tt
  took_none (Some left) place at = record {
    rows = [];
    front = [];
    is = refl;
    end = refl;
    spell = refl;
    number = ap (λ (p : Place). p.number) at;
    latest = subst (λ (l : Option ℕ). IsLatest l []) (sym (ap (λ (p : Place). p.latest) at)) refl;
    traced = refl;
    asked = refl;
    told = λ plan start. wrote_none (HasTold plan [] first) old (told_none plan first start);
  }

  -- a row more was taken, and nothing is said of what is written yet
  record OneMore (next : JudgeView) (place : Place) (mid : Option (List ℕ)) (grown : List ℕ) (from to : RowsLeft) : Type 0 where
    rows : List SeenRow
    front : List ℕ
    is : from.text ≡ front ++ to.text
    end : to.end ≡ from.end
    spell : AreRowLines buses 2 rows front
    number : place.number ≡ line_after rows
    latest : IsLatest place.latest rows
    traced : is_traced next ≡ is_traced first
    asked : is_asked next ≡ is_asked first
    told : (plan : SystemPlan) → Judges plan [] first → Wrote (HasTold plan rows next) old mid grown

  one_more : (now next : JudgeView) (place behind : Place) (mid : Option (List ℕ)) (text grown line : List ℕ) (row : SeenRow)
      (from at to : RowsLeft) → TookLines buses first now place old mid text from at → TakesLine line at to
      → SpellsRow buses place.number line row → Took now row next text grown
      → behind ≡ record { latest = Some (later_of place.latest row.time); number = place.number + 1 }
      → OneMore next behind mid grown from to
  one_more now next place behind mid text grown line row from at to took takes spells one is = record {
    rows = took.rows ++ row ∷ [];
    front = took.front ++ (line ++ (10 ∷ []));
    is = took.is ∙ ap (λ (l : List ℕ). took.front ++ l) takes.0.is
        ∙ ap (λ (l : List ℕ). took.front ++ l) (sym (append_assoc line (10 ∷ []) to.text))
        ∙ sym (append_assoc took.front (line ++ (10 ∷ [])) to.text);
    end = takes.1 ∙ took.end;
    spell = lines_more buses 2 took.rows row took.front line took.spell
        (subst (λ n. SpellsRow buses n line row) took.number spells) takes.0.one;
    number = ap (λ (p : Place). p.number) is ∙ ap (λ n. n + 1) took.number
        ∙ omega (arith, length-append took.rows (row ∷ []));
    latest = subst (λ (l : Option ℕ). IsLatest l (took.rows ++ row ∷ [])) (sym (ap (λ (p : Place). p.latest) is))
        (latest_more place.latest took.rows row took.latest);
    traced = one.traced ∙ took.traced;
    asked = one.asked ∙ took.asked;
    told = λ plan start.
        let wrote = took.told plan start in
        let on = one.tells plan took.rows wrote.told wrote.holds in
        wrote_more (HasTold plan took.rows now) old mid text wrote (HasTold plan (took.rows ++ row ∷ []) next) on.more grown
        on.grown on.told;
  }

  moved : (next : JudgeView) (place : Place) (mid new : Option (List ℕ)) (grown left : List ℕ) (from to : RowsLeft)
      → OneMore next place mid grown from to → Moves mid new grown left
      → TookLines buses first next place old new left from to
  moved next place mid new grown left from to one moves = record {
    rows = one.rows;
    front = one.front;
    is = one.is;
    end = one.end;
    spell = one.spell;
    number = one.number;
    latest = one.latest;
    traced = one.traced;
    asked = one.asked;
    told = λ plan start. wrote_moved (HasTold plan one.rows next) old mid grown (one.told plan start) new left moves;
  }

  both_more : (a b c : Option RowsLeft) (P Q R : RowsLeft → RowsLeft → Type 0)
      → ((x y z : RowsLeft) → P x y → Q y z → R x z) → Both a b P → Both b c Q → Both a c R
  both_more None b c P Q R join one two = tt
  both_more (Some a) None c P Q R join one two = absurd one
  both_more (Some a) (Some b) None P Q R join one two = absurd two
  both_more (Some a) (Some b) (Some c) P Q R join one two = join a b c one two

  pub both_some : (a b : Option RowsLeft) (P : RowsLeft → RowsLeft → Type 0) (Q : RowsLeft → Type 0)
      → ((x y : RowsLeft) → P x y → Q x) → Both a b P → IfSome a Q
  both_some None b P Q to is = tt
  both_some (Some a) None P Q to is = absurd is
  both_some (Some a) (Some b) P Q to is = to a b is

  pub both_if : (a b : Option RowsLeft) (P : RowsLeft → RowsLeft → Type 0) (S Q : RowsLeft → Type 0)
      → ((x y : RowsLeft) → P x y → S y → Q x) → Both a b P → IfSome b S → IfSome a Q
  both_if None b P S Q to is at = tt
  both_if (Some a) None P S Q to is at = absurd is
  both_if (Some a) (Some b) P S Q to is at = to a b is at

  -- a row more, and then a front of what is told is written
  pub took_more : (now next : JudgeView) (place behind : Place) (mid new : Option (List ℕ)) (text grown left line : List ℕ)
      (row : SeenRow) (a b c : Option RowsLeft) → Both a b (TookLines buses first now place old mid text)
      → Both b c (TakesLine line) → SpellsRow buses place.number line row → Took now row next text grown
      → behind ≡ record { latest = Some (later_of place.latest row.time); number = place.number + 1 }
      → Moves mid new grown left → Both a c (TookLines buses first next behind old new left)
  took_more now next place behind mid new text grown left line row a b c so_far takes spells one is moves =
      both_more a b c (TookLines buses first now place old mid text) (TakesLine line)
      (TookLines buses first next behind old new left)
      (λ x y z took line_is. moved next behind mid new grown left x z
      (one_more now next place behind mid text grown line row x y z took line_is spells one is) moves) so_far takes

  -- what is told of earlier times
  earlier : (plan : SystemPlan) (rows : List SeenRow) (now : JudgeView) (text : List ℕ) → is_traced now ≡ is_traced first
      → HasTold plan rows now text → IsToldEarlier (is_traced first) plan rows text
  earlier plan rows now text traced has =
      subst (λ t. IsToldEarlier t plan rows text) traced (told_earlier plan rows now text has)

  -- a write fails
  pub write_fails : (tally : Tally) (now next : JudgeView) (place behind : Place) (mid new : Option (List ℕ))
      (text grown left line : List ℕ) (row : SeenRow) (a b c : Option RowsLeft)
      → Both a b (TookLines buses first now place old mid text) → Both b c (TakesLine line)
      → SpellsRow buses place.number line row → Took now row next text grown
      → behind ≡ record { latest = Some (later_of place.latest row.time); number = place.number + 1 }
      → AppendsPart mid new grown → IfSome a (IsReplayedBy buses first tally old new left (Err fault.Write))
  write_fails tally now next place behind mid new text grown left line row a b c so_far takes spells one is part =
      both_some a c (OneMore next behind mid grown) (IsReplayedBy buses first tally old new left (Err fault.Write))
      (λ x z more. record {
        rows = more.rows;
        front = more.front;
        rest = z.text;
        is = more.is;
        spell = more.spell;
        answers = λ plan start. tt;
        counted = λ plan start. tt;
        told = λ plan start.
            let wrote = more.told plan start in
            wrote_part (HasTold plan more.rows next) old mid grown wrote (IsToldPart (is_traced first) plan more.rows) new part
            (earlier plan more.rows next wrote.told more.traced wrote.holds).part;
      })
      (both_more a b c (TookLines buses first now place old mid text) (TakesLine line) (OneMore next behind mid grown)
      (λ x y z took line_is. one_more now next place behind mid text grown line row x y z took line_is spells one is)
      so_far takes)

  -- a row more was taken, and the next line has no number
  pub number_fails : (tally : Tally) (now next : JudgeView) (place : Place) (mid : Option (List ℕ))
      (text grown line : List ℕ) (row : SeenRow) (a b c : Option RowsLeft)
      → Both a b (TookLines buses first now place old mid text) → Both b c (TakesLine line)
      → SpellsRow buses place.number line row → Took now row next text grown
      → IfSome a (IsReplayedBy buses first tally old mid grown (Err fault.Read))
  number_fails tally now next place mid text grown line row a b c so_far takes spells one =
      let behind : Place = record { latest = Some (later_of place.latest row.time); number = place.number + 1 } in
      both_some a c (OneMore next behind mid grown) (IsReplayedBy buses first tally old mid grown (Err fault.Read))
      (λ x z more. record {
        rows = more.rows;
        front = more.front;
        rest = z.text;
        is = more.is;
        spell = more.spell;
        answers = λ plan start. tt;
        counted = λ plan start. tt;
        told = λ plan start.
            let wrote = more.told plan start in
            wrote_as (HasTold plan more.rows next) old mid grown wrote (IsToldEarlier (is_traced first) plan more.rows) grown refl
            (earlier plan more.rows next wrote.told more.traced wrote.holds);
      })
      (both_more a b c (TookLines buses first now place old mid text) (TakesLine line) (OneMore next behind mid grown)
      (λ x y z took line_is. one_more now next place behind mid text grown line row x y z took line_is spells one refl)
      so_far takes)

  module _ (tally : Tally) (now : JudgeView) (place : Place) (mid : Option (List ℕ)) (text : List ℕ) (a b : Option RowsLeft)
      (so_far : Both a b (TookLines buses first now place old mid text)) where
    -- a read fails
    pub read_fails : IfSome a (IsReplayedBy buses first tally old mid text (Err fault.Read))
    read_fails =
        both_some a b (TookLines buses first now place old mid text) (IsReplayedBy buses first tally old mid text (Err fault.Read))
        (λ x y took. record {
          rows = took.rows;
          front = took.front;
          rest = y.text;
          is = took.is;
          spell = took.spell;
          answers = λ plan start. tt;
          counted = λ plan start. tt;
          told = λ plan start.
              let wrote = took.told plan start in
              wrote_as (HasTold plan took.rows now) old mid text wrote (IsToldEarlier (is_traced first) plan took.rows) text refl
              (earlier plan took.rows now wrote.told took.traced wrote.holds);
        }) so_far

    -- or memory is refused
    memory_fails : (grown : List ℕ) → IfSome a (IsReplayedBy buses first tally old mid grown (Err fault.Memory))
    memory_fails grown =
        both_some a b (TookLines buses first now place old mid text) (IsReplayedBy buses first tally old mid grown (Err fault.Memory))
        (λ x y took. record {
          rows = took.rows;
          front = took.front;
          rest = y.text;
          is = took.is;
          spell = took.spell;
          answers = λ plan start. tt;
          counted = λ plan start. tt;
          told = λ plan start.
              let wrote = took.told plan start in
              wrote_so_far (HasTold plan took.rows now) old mid text wrote (IsToldPart (is_traced first) plan took.rows)
              (earlier plan took.rows now wrote.told took.traced wrote.holds).part;
        }) so_far

    pub line_fails : (why : LineFault) → IfSome a (IsReplayedBy buses first tally old mid text (Err (replay_fault_of why)))
    line_fails line_fault.Read = read_fails
    line_fails line_fault.Memory = memory_fails text

    -- the row of the next line is not taken
    pub row_halts : (c : Option RowsLeft) (line grown : List ℕ) (why : Halt) → Both b c (TakesLine line)
        → LineStops buses place.number line now tally text grown why
        → IfSome a (IsReplayedBy buses first tally old mid grown (answer_of why))
    row_halts c line grown (halt.Unlawful found) takes stops =
        both_some a c (λ x z. (y : RowsLeft) × TookLines buses first now place old mid text x y × TakesLine line y z)
        (IsReplayedBy buses first tally old mid grown (Ok (verdict.Unlawful found))) (λ x z parts.
        let took = parts.1 in
        let takes = parts.2 in record {
          rows = took.rows;
          front = took.front;
          rest = parts.0.text;
          is = took.is;
          spell = took.spell;
          answers = λ plan start.
              let wrote = took.told plan start in
              let is = stops plan took.rows wrote.told wrote.holds in (
                inr (record {
                  line = line;
                  rest = z.text;
                  row = is.0.0;
                  begins = takes.0;
                  spells = subst (λ n. SpellsRow buses n line is.0.0) took.number is.0.1;
                  later = is.0.2;
                }),
                is.1,
              );
          counted = λ plan start. let wrote = took.told plan start in (stops plan took.rows wrote.told wrote.holds).2;
          told = λ plan start.
              let wrote = took.told plan start in
              let tells = (stops plan took.rows wrote.told wrote.holds).3 in
              wrote_more (HasTold plan took.rows now) old mid text wrote
              (λ t. IsToldBefore (is_traced first) plan took.rows t found) tells.0 grown tells.1
              (subst (λ t. IsToldBefore t plan took.rows (wrote.told ++ tells.0) found) took.traced tells.2);
        })
        (both_more a b c (TookLines buses first now place old mid text) (TakesLine line)
        (λ x z. (y : RowsLeft) × TookLines buses first now place old mid text x y × TakesLine line y z)
        (λ x y z took line_is. (y, took, line_is)) so_far takes)
    row_halts c line grown (halt.Fault (fault.Row number why)) takes stops =
        both_some a c (λ x z. (y : RowsLeft) × TookLines buses first now place old mid text x y × TakesLine line y z)
        (IsReplayedBy buses first tally old mid grown (Err (fault.Row number why))) (λ x z parts.
        let took = parts.1 in
        let takes = parts.2 in record {
          rows = took.rows;
          front = took.front;
          rest = parts.0.text;
          is = took.is;
          spell = took.spell;
          answers = λ plan start.
              let wrote = took.told plan start in (
                stops.0 ∙ took.number,
                (
                  line,
                  z.text,
                  takes.0,
                  subst (λ n.
                      (row_on buses n (column_parts line) ≡ Err why)
                      ⊎ ((row : SeenRow) × SpellsRow buses n line row × HasRowFault took.rows row why)) took.number
                      (stops.1 plan took.rows wrote.told wrote.holds).0,
                ),
              );
          counted = λ plan start. tt;
          told = λ plan start.
              let wrote = took.told plan start in
              wrote_as (HasTold plan took.rows now) old mid text wrote (IsToldEarlier (is_traced first) plan took.rows) grown
              (stops.1 plan took.rows wrote.told wrote.holds).1 (earlier plan took.rows now wrote.told took.traced wrote.holds);
        })
        (both_more a b c (TookLines buses first now place old mid text) (TakesLine line)
        (λ x z. (y : RowsLeft) × TookLines buses first now place old mid text x y × TakesLine line y z)
        (λ x y z took line_is. (y, took, line_is)) so_far takes)
    row_halts c line grown (halt.Fault (fault.Edges why)) takes stops = absurd stops
    row_halts c line grown (halt.Fault (fault.Unknown unknown)) takes stops = absurd stops
    row_halts c line grown (halt.Fault (fault.Dump at mistake)) takes stops = absurd stops
    row_halts c line grown (halt.Fault fault.Read) takes stops = absurd stops
    row_halts c line grown (halt.Fault fault.Memory) takes stops = memory_fails grown
    row_halts c line grown (halt.Fault fault.Write) takes stops = absurd stops

    -- no line is left
    pub took_all : (ended : Option RowsEnd) → IfSome b (HasNoLine ended)
        → IfSome a (AllTaken buses first now place old mid text ended)
    took_all ended none =
        both_if a b (TookLines buses first now place old mid text) (HasNoLine ended)
        (AllTaken buses first now place old mid text ended)
        (λ x y took is. record { last = y; took = took; none = is }) so_far none

-- ---- the end of all lines

some_is : (one other : End) → Some one ≡ Some other → one ≡ other
some_is one other is = cc is

module _ (buses : LinkBuses) (first now : JudgeView) (place : Place) (old mid : Option (List ℕ)) (text : List ℕ)
    (ended : Option RowsEnd) (a : Option RowsLeft)
    (all : IfSome a (AllTaken buses first now place old mid text ended)) where
  if_some : (P Q : RowsLeft → Type 0) → ((x : RowsLeft) → P x → Q x) → IfSome a P → IfSome a Q
  if_some P Q to is = go a is
    where
      go : (b : Option RowsLeft) → IfSome b P → IfSome b Q
      go None is = tt
      go (Some b) is = to b is

  -- it is not known how the rows end
  pub ends_unknown : (tally : Tally) → IfSome a (IsReplayedBy buses first tally old mid text (Err fault.Read))
  ends_unknown tally =
      if_some (AllTaken buses first now place old mid text ended)
      (IsReplayedBy buses first tally old mid text (Err fault.Read)) (λ x taken.
      let took = taken.took in record {
        rows = took.rows;
        front = took.front;
        rest = taken.last.text;
        is = took.is;
        spell = took.spell;
        answers = λ plan start. tt;
        counted = λ plan start. tt;
        told = λ plan start.
            let wrote = took.told plan start in
            wrote_as (HasTold plan took.rows now) old mid text wrote (IsToldEarlier (is_traced first) plan took.rows) text refl
            (subst (λ t. IsToldEarlier t plan took.rows wrote.told) took.traced
            (told_earlier plan took.rows now wrote.told wrote.holds));
      }) all

  -- the last rows are judged
  pub ends_judged : (tally : Tally) (end : RowsEnd) (grown : List ℕ) (answer : Result Verdict ReplayFault)
      → ended ≡ Some end → EndsReplay now tally end place.latest text grown answer
      → IfSome a (IsReplayedBy buses first tally old mid grown answer)
  ends_judged tally end grown answer known ends =
      if_some (AllTaken buses first now place old mid text ended)
      (IsReplayedBy buses first tally old mid grown answer) (λ x taken.
      let took = taken.took in
      let none = taken.none in
      let same : Some (end_of end) ≡ Some taken.last.end = ap (option_map end_of) (sym known) ∙ none.ends in
      let end_is : end_of end ≡ x.end = some_is (end_of end) taken.last.end same ∙ took.end in record {
        rows = took.rows;
        front = took.front;
        rest = taken.last.text;
        is = took.is;
        spell = took.spell;
        answers = λ plan start.
            let wrote = took.told plan start in
            subst (λ (l : List ℕ). IsReplayAnswer (is_asked first) plan buses answer took.rows l x.end) (sym none.is)
            (subst (λ (e : End). IsReplayAnswer (is_asked first) plan buses answer took.rows [] e) end_is
            (subst (λ asked. IsReplayAnswer asked plan buses answer took.rows [] (end_of end)) took.asked
            (ends.answers plan buses took.rows took.latest wrote.holds.judges)));
        counted = λ plan start. let wrote = took.told plan start in ends.counted plan took.rows wrote.holds.judges;
        told = λ plan start.
            let wrote = took.told plan start in
            subst (λ t. ReplayWrote t plan answer took.rows old mid grown) took.traced
            (ends.told plan took.rows wrote.told old mid wrote.holds wrote);
      }) all

-- ---- what is left is written

-- whatever is told by an answer is told of a part of the rows
part_told : (trace : Bool) (plan : SystemPlan) (rows : List SeenRow) (text : List ℕ) (v : Verdict)
    → IsToldBy trace plan v rows text → IsToldPart trace plan rows text
part_told trace plan rows text (verdict.Lawful counts) told = part_of_file trace plan rows text told
part_told trace plan rows text (verdict.Incomplete left) told = part_of_file trace plan rows text told
part_told trace plan rows text (verdict.Unlawful found) told = part_before trace plan rows text found told

module _ (trace : Bool) (plan : SystemPlan) (rows : List SeenRow) (old mid new : Option (List ℕ)) (text : List ℕ) where
  -- where an answer was cut short, what was written is written
  cut_out : (answer : Result Verdict ReplayFault) → is_cut_short answer ≡ true → ReplayWrote trace plan answer rows old mid text
      → IsReplayOut trace plan answer rows old mid
  cut_out (Ok v) cut wrote = absurd (cc)
  cut_out (Err (fault.Edges why)) cut wrote = absurd (cc)
  cut_out (Err (fault.Unknown unknown)) cut wrote = absurd (cc)
  cut_out (Err (fault.Dump line mistake)) cut wrote = absurd (cc)
  cut_out (Err (fault.Row line why)) cut wrote = absurd (cc)
  cut_out (Err fault.Read) cut wrote = absurd (cc)
  cut_out (Err fault.Memory) cut wrote = wrote
  cut_out (Err fault.Write) cut wrote = wrote

  whole_out : (answer : Result Verdict ReplayFault) → is_cut_short answer ≡ false
      → ReplayWrote trace plan answer rows old mid text → Appends mid new text → IsReplayOut trace plan answer rows old new
  whole_out (Ok v) cut wrote written = wrote_all (IsToldBy trace plan v rows) old mid text wrote new written
  whole_out (Err (fault.Edges why)) cut wrote written = wrote_all (IsToldFile trace plan rows) old mid text wrote new written
  whole_out (Err (fault.Unknown unknown)) cut wrote written =
      wrote_all (IsToldPart trace plan rows) old mid text wrote new written
  whole_out (Err (fault.Dump line mistake)) cut wrote written =
      wrote_all (IsToldFile trace plan rows) old mid text wrote new written
  whole_out (Err (fault.Row line why)) cut wrote written =
      wrote_all (IsToldEarlier trace plan rows) old mid text wrote new written
  whole_out (Err fault.Read) cut wrote written = wrote_all (IsToldEarlier trace plan rows) old mid text wrote new written
  whole_out (Err fault.Memory) cut wrote written = absurd (cc)
  whole_out (Err fault.Write) cut wrote written = absurd (cc)

  part_out : (answer : Result Verdict ReplayFault) → is_cut_short answer ≡ false
      → ReplayWrote trace plan answer rows old mid text → AppendsPart mid new text
      → WritesPart (IsToldPart trace plan rows) old new
  part_out (Ok v) cut wrote part =
      wrote_part (IsToldBy trace plan v rows) old mid text wrote (IsToldPart trace plan rows) new part
      (part_told trace plan rows wrote.told v wrote.holds)
  part_out (Err (fault.Edges why)) cut wrote part =
      wrote_part (IsToldFile trace plan rows) old mid text wrote (IsToldPart trace plan rows) new part
      (part_of_file trace plan rows wrote.told wrote.holds)
  part_out (Err (fault.Unknown unknown)) cut wrote part =
      wrote_part (IsToldPart trace plan rows) old mid text wrote (IsToldPart trace plan rows) new part wrote.holds
  part_out (Err (fault.Dump line mistake)) cut wrote part =
      wrote_part (IsToldFile trace plan rows) old mid text wrote (IsToldPart trace plan rows) new part
      (part_of_file trace plan rows wrote.told wrote.holds)
  part_out (Err (fault.Row line why)) cut wrote part =
      wrote_part (IsToldEarlier trace plan rows) old mid text wrote (IsToldPart trace plan rows) new part wrote.holds.part
  part_out (Err fault.Read) cut wrote part =
      wrote_part (IsToldEarlier trace plan rows) old mid text wrote (IsToldPart trace plan rows) new part wrote.holds.part
  part_out (Err fault.Memory) cut wrote part = absurd (cc)
  part_out (Err fault.Write) cut wrote part = absurd (cc)

module _ (plan : SystemPlan) (buses : LinkBuses) (first : JudgeView) (tally : Tally) (old mid new : Option (List ℕ)) (text : List ℕ)
    (answer result : Result Verdict ReplayFault) (start : Judges plan [] first)
    (finishes : ReplayFinishes mid new text answer result) where
  replayed_at : (left : RowsLeft) → IsReplayedBy buses first tally old mid text answer left
      → IsReplayed (is_asked first) (is_traced first) plan buses left old new result
  replayed_at left by = go finishes
    where
      P : Result Verdict ReplayFault → Type 0
      P r = IsReplayed (is_asked first) (is_traced first) plan buses left old new r

      with_out : (r : Result Verdict ReplayFault) → IsReplayAnswer (is_asked first) plan buses r by.rows by.rest left.end
          → IsReplayOut (is_traced first) plan r by.rows old new → P r
      with_out r answers out =
          record { rows = by.rows; front = by.front; rest = by.rest; is = by.is; spell = by.spell; answers = answers; out = out }

      go : ReplayFinishes mid new text answer result → P result
      go (inl cut) =
          subst P (sym cut.1) (with_out answer (by.answers plan start)
          (subst (λ (o : Option (List ℕ)). IsReplayOut (is_traced first) plan answer by.rows old o) (sym cut.2)
          (cut_out (is_traced first) plan by.rows old mid new text answer cut.0 (by.told plan start))))
      go (inr (whole, inl all)) =
          subst P (sym all.0) (with_out answer (by.answers plan start)
          (whole_out (is_traced first) plan by.rows old mid new text answer whole (by.told plan start) all.1))
      go (inr (whole, inr part)) =
          subst P (sym part.0) (with_out (Err fault.Write) tt
          (part_out (is_traced first) plan by.rows old mid new text answer whole (by.told plan start) part.1))

  covered_at : (left : RowsLeft) → IsReplayedBy buses first tally old mid text answer left
      → IfOk result (IsReplayCovered plan buses left tally)
  covered_at left by = go finishes
    where
      P : Result Verdict ReplayFault → Type 0
      P r = IfOk r (IsReplayCovered plan buses left tally)

      of_answer : (r : Result Verdict ReplayFault) → IsReplayCounted plan r by.rows tally → P r
      of_answer (Ok v) counted =
          record { rows = by.rows; front = by.front; rest = by.rest; is = by.is; spell = by.spell; holds = counted }
      of_answer (Err why) counted = tt

      go : ReplayFinishes mid new text answer result → P result
      go (inl cut) = subst P (sym cut.1) (of_answer answer (by.counted plan start))
      go (inr (whole, inl all)) = subst P (sym all.0) (of_answer answer (by.counted plan start))
      go (inr (whole, inr part)) = subst P (sym part.0) tt

  pub says_replayed : (rows coming : Option RowsLeft) → coming ≡ rows
      → IfSome coming (IsReplayedBy buses first tally old mid text answer)
      → IfSome rows (λ left. IsReplayed (is_asked first) (is_traced first) plan buses left old new result)
  says_replayed rows coming same by =
      subst (λ r. IfSome r (λ left. IsReplayed (is_asked first) (is_traced first) plan buses left old new result)) same (go coming by)
    where
      go : (c : Option RowsLeft) → IfSome c (IsReplayedBy buses first tally old mid text answer)
          → IfSome c (λ left. IsReplayed (is_asked first) (is_traced first) plan buses left old new result)
      go None by = tt
      go (Some left) by = replayed_at left by

  pub says_counted : (rows coming : Option RowsLeft) → coming ≡ rows
      → IfSome coming (IsReplayedBy buses first tally old mid text answer)
      → IfOk result (λ v. IfSome rows (λ left. IsReplayCovered plan buses left tally v))
  says_counted rows coming same by =
      subst (λ r. IfOk result (λ v. IfSome r (λ left. IsReplayCovered plan buses left tally v))) same (go coming by)
    where
      none : (r : Result Verdict ReplayFault) → IfOk r (λ v. Unit {0})
      none (Ok v) = tt
      none (Err why) = tt

      go : (c : Option RowsLeft) → IfSome c (IsReplayedBy buses first tally old mid text answer)
          → IfOk result (λ v. IfSome c (λ left. IsReplayCovered plan buses left tally v))
      go None by = none result
      go (Some left) by = covered_at left by
