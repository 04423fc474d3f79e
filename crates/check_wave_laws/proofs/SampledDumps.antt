-- The times of a dump do not fall, so its rows are those of its beats and its resets; and there are no other rows of these.
use Rattle.std.proofs.Common.{◌≡◌, ◌∙◌, ℕ, ◌-◌, ◌⊎◌, inl, inr, ◌==◌, ◌||◌, Bool, true, false, cond, not, nat_lt, List, [], ◌∷◌, ◌++◌, length, map, Contains, Option, None, Some, ap, arith, refl, subst, sym}
use Rattle.std.specs.Prelude.{⊤}
use Rattle.std.proofs.lemmas.Bool.{le-leb, ltb-false}
use Rattle.tl_text.specs.Number.{number_of}
use Rattle.check_vcd.specs.Body.{At, Body, Fails, Find, Gives, Goes, Happens, Resumes, Sets, Step, Wrong, begun_by, changed, changed_to, falls, followed, happenings, passed, passed_to, resumed, set, start, step_at, step_of, timed, timed_at, with_bit, with_digits}
use Rattle.check_vcd.specs.Header.{Var}
use Rattle.check_vcd.specs.Token.{are_bits, is_end, plain_digit, token_kind}
use Rattle.check_vcd.specs.Words.{Word}
use Rattle.check_vcd.specs.declared.body.BodyPlace.{BodyPlace}
use Rattle.check_vcd.specs.declared.body.BodyPlace.TheVariants.{Plain, InComment, BehindVector, BehindOther}
use Rattle.check_vcd.specs.declared.body.TheConstants.{TIME_DIGITS}
use Rattle.check_vcd.specs.declared.codes.Coded.{Coded}
use Rattle.check_vcd.specs.declared.fault.Mistake.TheVariants.{BadValue, TimeFalls, TooWide}
use Rattle.check_vcd.specs.declared.token.TokenKind.{TokenKind}
use Rattle.check_vcd.specs.declared.token.TokenKind.TheVariants as kind
use Rattle.check_samples.specs.Digits.{unknown}
use Rattle.check_samples.specs.Left.{end_in}
use Rattle.check_samples.specs.Rows.{Probes, Rows}
use Rattle.check_samples.specs.Sampling.{rows_from, sampling_by}
use Rattle.check_signals.specs.Found.{Found, digits_in, find_of, sampling_of, width_in}
use Rattle.check_wave_laws.specs.Sampled.{AreInOrder, AreSampled, EndsSampled, HasNoGap, NeverFalls, OfBeat, OfReset, Precedes, PrecedesAtTime, SampledRow, Wave, cut_after, is_until, sampled_rows, wave_of}
use Rattle.check_wave_laws.proofs.Edges.{here, here-or-there, none-there, there}
use Rattle.check_wave_laws.proofs.Sampled.{ends-sampled, sampled}

-- ---- times

-- what happens at a word is no time that falls, and the last time is known after it
abbrev StepRises : Option ℕ → Step → Type 0
StepRises time (Goes body) = body.time ≡ time
StepRises time (Gives body (At next)) = (is_until next time ≡ true) × (body.time ≡ Some next)
StepRises time (Gives body (Sets slot digits)) = body.time ≡ time
StepRises time (Gives body (Resumes line)) = body.time ≡ time
StepRises time (Gives body (Wrong line mistake)) = ⊤
StepRises time (Fails mistake) = ⊤

module _ (find : Find) where
  changed-rises : (body : Body) (code : List ℕ) → StepRises body.time (changed find body code)
  changed-rises body code = go (find code)
    where
      kept : (slot : Option ℕ) → StepRises body.time (set body slot)
      kept None = refl
      kept (Some slot) = refl

      by : (coded : Coded) (t : Bool) → StepRises body.time (cond t (Fails TooWide) (set body coded.slot))
      by coded true = tt
      by coded false = kept coded.slot

      go : (known : Option Coded) → StepRises body.time (changed_to body known)
      go None = tt
      go (Some coded) = by coded (nat_lt coded.width body.size)

  passed-rises : (body : Body) (code : List ℕ) → StepRises body.time (passed find body code)
  passed-rises body code = go (find code)
    where
      go : (known : Option Coded) → StepRises body.time (passed_to body known)
      go None = tt
      go (Some coded) = refl

  timed-rises : (body : Body) (digits : List ℕ) → StepRises body.time (timed body digits)
  timed-rises body digits = go (number_of 10 TIME_DIGITS digits)
    where
      risen : (last : Option ℕ) (time : ℕ) → falls last time ≡ false → is_until time last ≡ true
      risen None time rising = refl
      risen (Some last) time rising = le-leb last time (ltb-false time last rising)

      by : (time : ℕ) (t : Bool) → falls body.time time ≡ t
          → StepRises body.time (cond t (Fails TimeFalls) (Gives (record body { time = Some time }) (At time)))
      by time true is = tt
      by time false is = (risen body.time time is, refl)

      go : (number : Option ℕ) → StepRises body.time (timed_at body number)
      go None = tt
      go (Some time) = by time (falls body.time time) refl

  digits-rise : (body : Body) (digits : List ℕ) (size : ℕ) → StepRises body.time (with_digits body digits size)
  digits-rise body digits size = go ((length digits == 0) || not (are_bits digits))
    where
      go : (t : Bool) → StepRises body.time
          (cond t (Fails BadValue) (Goes (record body { place = BehindVector; value = map plain_digit digits; size = size })))
      go true = tt
      go false = refl

  resumed-rises : (body : Body) (line : ℕ) → StepRises body.time (resumed body line)
  resumed-rises body line = go body.is_off
    where
      go : (t : Bool) → StepRises body.time (cond t (Gives (record body { is_off = false }) (Resumes line)) (Goes body))
      go true = refl
      go false = refl

  begun-rises : (which : TokenKind) (body : Body) (line size first : ℕ) (rest : List ℕ)
      → StepRises body.time (begun_by which find body line size first rest)
  begun-rises kind.Scalar body line size first rest = changed-rises (with_bit body first) rest
  begun-rises kind.Vector body line size first rest = digits-rise body rest (size - 1)
  begun-rises kind.Time body line size first rest = timed-rises body rest
  begun-rises kind.Other body line size first rest = refl
  begun-rises kind.Comment body line size first rest = refl
  begun-rises kind.Ignored body line size first rest = refl
  begun-rises kind.Off body line size first rest = refl
  begun-rises kind.On body line size first rest = resumed-rises body line
  begun-rises kind.Unknown body line size first rest = tt

  word-rises : (place : BodyPlace) (body : Body) (line size : ℕ) (word : List ℕ)
      → StepRises body.time (step_at place find body line size word)
  word-rises Plain body line size [] = tt
  word-rises Plain body line size (first ∷ rest) =
      begun-rises (token_kind first (first ∷ rest)) body line size first rest
  word-rises InComment body line size word = go (is_end word)
    where
      go : (t : Bool) → (cond t (record body { place = Plain }) body).time ≡ body.time
      go true = refl
      go false = refl
  word-rises BehindVector body line size word = changed-rises (record body { place = Plain }) word
  word-rises BehindOther body line size word = passed-rises (record body { place = Plain }) word

  followed-rises : (time : Option ℕ) (step : Step) (line : ℕ) (others : Body → List Happens) → StepRises time step
      → ((body : Body) → NeverFalls body.time (others body)) → NeverFalls time (followed step line others)
  followed-rises time (Goes body) line others rises more =
      subst (λ (t : Option ℕ). NeverFalls t (others body)) rises (more body)
  followed-rises time (Gives body (At next)) line others rises more =
      (rises.0, subst (λ (t : Option ℕ). NeverFalls t (others body)) rises.1 (more body))
  followed-rises time (Gives body (Sets slot digits)) line others rises more =
      subst (λ (t : Option ℕ). NeverFalls t (others body)) rises (more body)
  followed-rises time (Gives body (Resumes at)) line others rises more =
      subst (λ (t : Option ℕ). NeverFalls t (others body)) rises (more body)
  followed-rises time (Gives body (Wrong at mistake)) line others rises more = tt
  followed-rises time (Fails mistake) line others rises more = tt

  never-falls : (words : List Word) (body : Body) → NeverFalls body.time (happenings find words body)
  unfolding happenings
  never-falls [] body = tt
  never-falls (word ∷ words) body =
      followed-rises body.time (step_of find body word.line word.size word.bytes) word.line (happenings find words)
      (word-rises body.place body word.line word.size word.bytes) (λ next. never-falls words next)

pub dump-sampled : (find : Find) (words : List Word) (probes : Probes) (before now : List (List ℕ)) (widths : List ℕ)
    → AreSampled (wave_of probes now widths (happenings find words start))
    (rows_from (happenings find words start) (sampling_by probes before now widths))
dump-sampled find words probes before now widths =
    sampled (happenings find words start) probes before now widths (never-falls find words start)

pub system-sampled : (vars : List Var) (words : List Word) (found : Found)
    → AreSampled (wave_of found.probes (map digits_in found.kept) (map width_in found.kept)
    (happenings (find_of vars found) words start))
    (rows_from (happenings (find_of vars found) words start) (sampling_of found))
system-sampled vars words found =
    dump-sampled (find_of vars found) words found.probes (map (λ value. unknown (width_in value)) found.kept ++ ([] ∷ []))
    (map digits_in found.kept) (map width_in found.kept)

-- how whole dumps end
pub system-ends : (vars : List Var) (words : List Word) (found : Found)
    → cut_after None (happenings (find_of vars found) words start) ≡ None
    → HasNoGap (wave_of found.probes (map digits_in found.kept) (map width_in found.kept)
    (happenings (find_of vars found) words start))
    → EndsSampled (wave_of found.probes (map digits_in found.kept) (map width_in found.kept)
    (happenings (find_of vars found) words start))
    (end_in (happenings (find_of vars found) words start) (sampling_of found))
system-ends vars words found whole joined =
    ends-sampled (happenings (find_of vars found) words start) found.probes
    (map (λ value. unknown (width_in value)) found.kept ++ ([] ∷ [])) (map digits_in found.kept) (map width_in found.kept)
    (never-falls (find_of vars found) words start) whole joined

-- ---- no other rows

-- nothing precedes itself, and of two one alone precedes the other
apart-at : (one other : SampledRow) → PrecedesAtTime one other → PrecedesAtTime other one → ⊥
apart-at (OfReset time) (OfReset later) first second = first
apart-at (OfReset time) (OfBeat later) first second = second
apart-at (OfBeat beat) (OfReset later) first second = first
apart-at (OfBeat beat) (OfBeat later) first second = omega (arith, first, second)

apart : (one other : SampledRow) → Precedes one other → Precedes other one → ⊥
apart one other (inl first) (inl second) = omega (arith, first, second)
apart one other (inl first) (inr second) = omega (arith, first, second.0)
apart one other (inr first) (inl second) = omega (arith, first.0, second)
apart one other (inr first) (inr second) = apart-at one other first.1 second.1

-- lists in order that have the same rows
abbrev HaveSame : List SampledRow → List SampledRow → Type 0
HaveSame rows others = (row : SampledRow) → Contains rows row → Contains others row

same-first : (row other : SampledRow) (rows others : List SampledRow) → AreInOrder (row ∷ rows)
    → AreInOrder (other ∷ others)
    → HaveSame (row ∷ rows) (other ∷ others) → HaveSame (other ∷ others) (row ∷ rows) → row ≡ other
same-first row other rows others first second to back =
    go (here-or-there other row others (to row (here row rows)))
    (here-or-there row other rows (back other (here other others)))
  where
    go : (other ≡ row) ⊎ Contains others row → (row ≡ other) ⊎ Contains rows other → row ≡ other
    go (inl same) right = sym same
    go (inr left) (inl same) = same
    go (inr left) (inr right) = absurd (apart other row (second.0 row left) (first.0 other right))

same-rest : (row other : SampledRow) (rows others : List SampledRow) → AreInOrder (row ∷ rows) → row ≡ other
    → HaveSame (row ∷ rows) (other ∷ others) → HaveSame rows others
same-rest row other rows others first same to =
    λ one has. go one has (here-or-there other one others (to one (there row one rows has)))
  where
    go : (one : SampledRow) → Contains rows one → (other ≡ one) ⊎ Contains others one → Contains others one
    go one has (inl is) =
        let after : Precedes row one = first.0 one has in
        let itself : Precedes one one = subst (λ (b : SampledRow). Precedes b one) (same ∙ is) after in
        absurd (apart one one itself itself)
    go one has (inr far) = far

same-sampled : (rows others : List SampledRow) → AreInOrder rows → AreInOrder others → HaveSame rows others
    → HaveSame others rows → rows ≡ others
same-sampled [] [] first second to back = refl
same-sampled [] (other ∷ others) first second to back = absurd (none-there other (back other (here other others)))
same-sampled (row ∷ rows) [] first second to back = absurd (none-there row (to row (here row rows)))
same-sampled (row ∷ rows) (other ∷ others) first second to back =
    let same = same-first row other rows others first second to back in
    ap (λ (b : SampledRow). b ∷ rows) same
    ∙ ap (λ (bs : List SampledRow). other ∷ bs) (same-sampled rows others first.1 second.1
    (same-rest row other rows others first same to) (same-rest other row others rows second (sym same) back))

pub one-sampled : (wave : Wave) (rows others : Rows) → AreSampled wave rows → AreSampled wave others → rows ≡ others
one-sampled wave rows others first second =
    first.are
    ∙ ap (λ (bs : List SampledRow). sampled_rows wave bs)
    (same-sampled first.sampled second.sampled first.order second.order
    (λ row has. (second.each row).1 ((first.each row).0 has))
    (λ row has. (first.each row).1 ((second.each row).0 has)))
    ∙ sym second.are
