-- How a moment is refused by whose time a request has waited for too long.
use Rattle.std.proofs.Common.{◌≡◌, ℕ, Bool, true, false, cond, List, [], ◌∷◌, ◌++◌, Option, Some, None, Contains, length, append-nil, reverse, refl, sym, ap, subst, arith}
use Rattle.std.specs.List.{AllByRecursion}
use Rattle.std.proofs.lemmas.List.Elements.{All-contains, All-from_recursion}
use Rattle.std.proofs.lemmas.List.Sorted.{Contains-permutation, IsPermutation-reverse, IsPermutation-sym, length_permutation}
use Rattle.check_rows.specs.Moment.{Cross}
use Rattle.check_rows.specs.Row.{SeenRow}
use Rattle.check_review.specs.declared.waiting.Waiting.{Waiting}
use Rattle.check_review.specs.Waiting.{WaitsView}
use Rattle.check_review.specs.Waiting.{first_late, waiting_in}
use Rattle.check_lines.specs.declared.breach.Breach.TheVariants as breach
use Rattle.check_start.specs.Loads.{SystemPlan}
use Rattle.check_review.specs.declared.stop.Refusal.{Refusal}
use Rattle.check_review.specs.declared.stop.Refusal.TheVariants as refusal
use Rattle.check_review.specs.declared.stop.Unlawful.{Unlawful}
use Rattle.check_review.specs.Stretches.{IsLawfulStretch, Stretches, watched_in}
use Rattle.check_review.specs.Times.{IsNamedAs, late_before}
use Rattle.check_review.specs.Verdict.{OfUnlawful, StopsAt}
use Rattle.check_review.proofs.Timing.{all_beats, last_row}

-- what holds whatever is found
pub any_unlawful : {P : Type 0} (why : Refusal) → P → OfUnlawful (λ _. P) why
any_unlawful (refusal.Unlawful found) is = is
any_unlawful refusal.Memory is = tt

-- no row of a moment before which a request is late is a reset
pub moment_beats : (waits : Option WaitsView) (rows : List SeenRow) (first : Waiting) → late_before waits rows ≡ Some first
    → Cross 0 rows → AllByRecursion (λ row. row.is_reset ≡ false) rows
moment_beats None rows first is cross = absurd (cc)
moment_beats (Some waits) [] first is cross = absurd (cc)
moment_beats (Some waits) (row ∷ rows) first is cross = all_beats row rows cross (go row.is_reset refl is)
  where
    go : (b : Bool) → row.is_reset ≡ b → cond b None (first_late waits.limit row.time waits.requests) ≡ Some first
        → row.is_reset ≡ false
    go true reset is = absurd (cc)
    go false beat is = beat

-- what each row of a list is, its row at a place is too
pub at_place : (P : SeenRow → Type 0) (rows : List SeenRow) (row : SeenRow) → AllByRecursion P rows → Contains rows row → P row
at_place P rows row all there = All-contains P rows row (All-from_recursion P rows all) there

-- the last row of a moment that has one
pub record HasLast (rows : List SeenRow) : Type 0 where
  pub last : SeenRow
  pub others : List SeenRow
  pub are : reverse rows ≡ last ∷ others
  pub there : Contains rows last

pub has_last : (rows : List SeenRow) (row : SeenRow) → Contains rows row → HasLast rows
has_last rows row some = go (reverse rows) refl
  where
    go : (turned : List SeenRow) → reverse rows ≡ turned → HasLast rows
    go [] are =
        let long = length_permutation rows (reverse rows) (IsPermutation-reverse rows) in
        let short = ap length are in
        let inside = some.1 in
        absurd (omega (arith, long, short, inside))
    go (last ∷ others) are = record {
      last = last;
      others = others;
      are = are;
      there = Contains-permutation (reverse rows) rows last
          (IsPermutation-sym rows (reverse rows) (IsPermutation-reverse rows))
          (subst (λ l. Contains l last) (sym are) (0, omega arith, refl));
    }

-- a course has the last row of those that crossed, if that is no reset
pub course_last : (system : SystemPlan) (turned before : List SeenRow) (last : SeenRow) (others : List SeenRow)
    → turned ≡ last ∷ others → last.is_reset ≡ false → (course : Stretches system (turned ++ before))
    → (rest : List SeenRow) × (course.now.rows ≡ last ∷ rest)
course_last system turned before last others are beat =
    subst (λ l. (course : Stretches system (l ++ before)) → (rest : List SeenRow) × (course.now.rows ≡ last ∷ rest)) (sym are)
    (λ course. last_row system last (others ++ before) course beat)

-- the rows are all lawful, and then a request has waited for too long
abbrev pub stops_waiting : (system : SystemPlan) (rows before : List SeenRow) (course : Stretches system (reverse rows ++ before))
    (row : SeenRow) → Contains rows row → (last : HasLast rows) → last.last.time ≡ row.time → last.last.is_reset ≡ false
    → IsLawfulStretch course.now → (limit : ℕ) → system.within ≡ Some limit → (first : Waiting)
    → first_late limit row.time (waiting_in course.now.plan (watched_in course.now)) ≡ Some first
    → (found : Unlawful) → IsNamedAs first found.row → found.breach ≡ breach.NoReply → StopsAt system rows before found
stops_waiting system rows before course row there last now beat lawful limit asked first late found named is =
    let rest = course_last system (reverse rows) before last.last last.others last.are beat course in
    record {
      next = None;
      some = row;
      there = there;
      done = rows;
      left = [];
      are = sym (append-nil rows);
      course = course;
      is = record {
        row = last.last;
        before = rest.0;
        are = rest.1;
        now = now;
        lawful = lawful;
        limit = limit;
        asked = asked;
        first = first;
        late = late;
        named = named;
        breach = is;
      };
      last = λ _. refl;
    }
