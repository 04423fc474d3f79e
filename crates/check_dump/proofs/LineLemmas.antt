-- The rows that are left to come of a dump, and the next one.
use Rattle.std.proofs.Common.{◌≡◌, ◌∙◌, ℕ, zero, suc, ◌+◌, ◌<◌, ◌≤◌, List, [], ◌∷◌, ◌++◌, drop, length, get_or, Option, Some, None, Result, Ok, Err, IfOk, IfErr, IfSome, append_assoc, ap, arith, refl, subst, sym}
use Rattle.std.proofs.lemmas.List.{drop-append-le, drop_all, drop_more}
use Rattle.std.proofs.lemmas.List.Elements.{All-get_or}
use Rattle.std.specs.Prelude.{All, is_some, true}
use Rattle.check_samples.specs.Due.{IsPlain, due_text}
use Rattle.check_vcd.specs.Words.{Both}
use Rattle.check_samples.specs.Left.{RowsGoOn, RowsLeft, Stops}
use Rattle.check_samples.specs.declared.rows.Progress.{Progress}
use Rattle.check_samples.specs.declared.rows.Progress.TheVariants as progress
use Rattle.check_samples.specs.declared.rows.RowsFault.{RowsFault}
use Rattle.check_samples.specs.declared.rows.RowsFault.TheVariants as rows_fault
use Rattle.check_dump.specs.Lines.{HasNoLine, HasNoLineEnd, TakesLine, coming_by, end_of, ended_by}
use Rattle.check_dump.specs.declared.kept.RowsEnd.{RowsEnd}
use Rattle.check_dump.specs.declared.kept.RowsEnd.TheVariants as ends

-- ---- rows that are left to come

pub both_same : (left : Option RowsLeft) → Both left left (λ from to. to ≡ from)
both_same None = tt
both_same (Some left) = refl

pub both_then : (a b c : Option RowsLeft) (P : RowsLeft → RowsLeft → Type 0) → Both a b (λ from to. to ≡ from) → Both b c P
    → Both a c P
both_then None b c P one two = tt
both_then (Some a) None c P one two = absurd one
both_then (Some a) (Some b) None P one two = absurd two
both_then (Some a) (Some b) (Some c) P one two = subst (λ (x : RowsLeft). P x c) one two

pub if_then : (a b : Option RowsLeft) (P : RowsLeft → Type 0) → Both a b (λ from to. to ≡ from) → IfSome b P → IfSome a P
if_then None b P one two = tt
if_then (Some a) None P one two = absurd one
if_then (Some a) (Some b) P one two = subst P one two

-- of the text at hand, what lies behind a place goes on as the whole does
behind : (next : ℕ) (old new more rest : List ℕ) → next ≤ length old → next ≤ length new → new ++ rest ≡ old ++ more
    → drop next new ++ rest ≡ drop next old ++ more
behind next old new more rest inside there is =
    sym (drop-append-le next new rest there) ∙ ap (drop next) is ∙ drop-append-le next old more inside

behind_all : (next : ℕ) (old new more : List ℕ) → next ≤ length old → new ≡ old ++ more
    → drop next new ≡ drop next old ++ more
behind_all next old new more inside is = ap (drop next) is ∙ drop-append-le next old more inside

same_left : (text other : List ℕ) (left : RowsLeft) → other ≡ text
    → record left { text = other } ≡ record left { text = text }
same_left text other left is = ap (λ (t : List ℕ). record left { text = t }) is

-- all that was to come is at hand, and they end so
all_at_hand : (next : ℕ) (old new : List ℕ) (from to : Option RowsLeft) (end : RowsEnd) (ended : Option RowsEnd)
    → Some end ≡ ended → next ≤ length old
    → IfSome from (λ a. (new ≡ old ++ a.text) × (a.end ≡ end_of end))
    → Both (coming_by (drop next old) None from) (coming_by (drop next new) ended to) (λ a b. b ≡ a)
all_at_hand next old new from to end ended is inside goes =
    subst (λ (e : Option RowsEnd). Both (coming_by (drop next old) None from) (coming_by (drop next new) e to) (λ a b. b ≡ a))
    is (all from goes)
  where
    all : (from : Option RowsLeft) → IfSome from (λ a. (new ≡ old ++ a.text) × (a.end ≡ end_of end))
        → Both (coming_by (drop next old) None from) (Some (record { text = drop next new; end = end_of end })) (λ a b. b ≡ a)
    all None goes = tt
    all (Some a) goes = rw (behind_all next old new a.text inside goes.0, goes.1) refl

over : (old new : List ℕ) (from to : Option RowsLeft) → Both from to (RowsGoOn progress.Over old new)
    → IfSome from (λ a. (new ≡ old ++ a.text) × (a.end ≡ end_of ends.Whole))
over old new None to goes = tt
over old new (Some a) None goes = absurd goes
over old new (Some a) (Some b) goes = goes

more_to_come : (next : ℕ) (old new : List ℕ) (from to : Option RowsLeft) → next ≤ length old → next ≤ length new
    → Both from to (RowsGoOn progress.More old new)
    → Both (coming_by (drop next old) None from) (coming_by (drop next new) None to) (λ a b. b ≡ a)
more_to_come next old new None to inside there goes = tt
more_to_come next old new (Some a) None inside there goes = absurd goes
more_to_come next old new (Some a) (Some b) inside there goes =
    rw (behind next old new a.text b.text inside there goes.0, goes.1) refl

-- what was to come is at hand or is to come, after the dump was read on
pub goes_on : (next : ℕ) (old new : List ℕ) (from to : Option RowsLeft) (answer : Result Progress RowsFault)
    (ended : Option RowsEnd) → ended_by answer ≡ Ok ended → next ≤ length old → next ≤ length new
    → IfOk answer (λ p. Both from to (RowsGoOn p old new)) → IfErr answer (λ f. IfSome from (Stops f old new))
    → Both (coming_by (drop next old) None from) (coming_by (drop next new) ended to) (λ a b. b ≡ a)
goes_on next old new from to (Ok progress.More) ended is inside there ok fault =
    let same : None ≡ ended = cc is in
    let P : Option RowsEnd → Type 0 =
    λ e. Both (coming_by (drop next old) None from) (coming_by (drop next new) e to) (λ a b. b ≡ a) in
    subst P same (more_to_come next old new from to inside there ok)
goes_on next old new from to (Ok progress.Over) ended is inside there ok fault =
    all_at_hand next old new from to ends.Whole ended (cc is) inside (over old new from to ok)
goes_on next old new from to (Err (rows_fault.Edges why)) ended is inside there ok fault =
    all_at_hand next old new from to (ends.WithoutEdges why) ended (cc is) inside fault
goes_on next old new from to (Err (rows_fault.Unknown unknown)) ended is inside there ok fault =
    all_at_hand next old new from to (ends.BeforeBeat unknown) ended (cc is) inside fault
goes_on next old new from to (Err (rows_fault.Dump line mistake)) ended is inside there ok fault =
    all_at_hand next old new from to (ends.BeforeLine line mistake) ended (cc is) inside fault
goes_on next old new from to (Err rows_fault.Read) ended is inside there ok fault = absurd (cc is)
goes_on next old new from to (Err rows_fault.Memory) ended is inside there ok fault = absurd (cc is)

-- ---- one row

-- no byte of a line ends it
no_end : (line : List ℕ) → IsPlain line → HasNoLineEnd line
no_end [] plain place inside = absurd (omega (arith, inside))
no_end (byte ∷ line) plain zero inside = λ is. omega (arith, is, plain.0)
no_end (byte ∷ line) plain (suc place) inside = no_end line plain.1 place (omega (arith, inside))

-- the next row is that at its place, and the others stand behind it
pub takes_line : (due : List (List ℕ)) (next : ℕ) (ended : Option RowsEnd) (rows : Option RowsLeft) → next < length due
    → All IsPlain due
    → Both (coming_by (due_text (drop next due)) ended rows) (coming_by (due_text (drop (next + 1) due)) ended rows)
    (TakesLine (get_or due next []))
takes_line due next ended rows inside plain = go ended rows
  where
    line : List ℕ
    line = get_or due next []

    rest : List ℕ
    rest = due_text (drop (next + 1) due)

    is_line : due_text (drop next due) ≡ line ++ (10 ∷ rest)
    is_line = ap due_text (drop_more due next [] inside)

    one : HasNoLineEnd line
    one = no_end line (All-get_or IsPlain due next [] inside plain)

    go : (ended : Option RowsEnd) (rows : Option RowsLeft)
        → Both (coming_by (due_text (drop next due)) ended rows) (coming_by rest ended rows) (TakesLine line)
    go (Some end) rows = (record { is = is_line; one = one }, refl)
    go None None = tt
    go None (Some left) = (
      record {
        is = ap (λ (l : List ℕ). l ++ left.text) is_line ∙ append_assoc line (10 ∷ rest) left.text;
        one = one;
      },
      refl,
    )

-- no row is left
pub no_line : (due : List (List ℕ)) (next : ℕ) (ended : Option RowsEnd) (rows : Option RowsLeft) → length due ≤ next
    → is_some ended ≡ true → IfSome (coming_by (due_text (drop next due)) ended rows) (HasNoLine ended)
no_line due next None rows all some = absurd (cc)
no_line due next (Some end) rows all some = record { is = ap due_text (drop_all next due all); ends = refl }
