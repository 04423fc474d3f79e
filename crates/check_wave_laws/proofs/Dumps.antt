-- What happens in a dump fits, if no identifier that is kept has more bits than its slot.
use Rattle.std.proofs.Common.{◌≡◌, ℕ, ◌+◌, ◌-◌, ◌^◌, ◌<◌, ◌≤◌, ◌==◌, nat_le, nat_lt, Bool, true, false, ◌||◌, not, cond, List, [], ◌∷◌, ◌++◌, length, get_or, map, Option, Some, None, is_some, arith, refl, subst, option_and_then, length-append}
use Rattle.std.specs.Prelude.{⊤}
use Rattle.std.proofs.lemmas.Bool.{ltb-false, ltb-true}
use Rattle.std.proofs.lemmas.List.{length-map}
use Rattle.std.specs.Str.Parse.{digits_value}
use Rattle.tl_text.specs.Number.{are_digits, number_of}
use Rattle.check_beats.specs.declared.bus.Bus.{Bus}
use Rattle.check_vcd.specs.Body.{At, Body, Fails, Find, Gives, Goes, Happens, Resumes, Sets, Step, Wrong, begun_by, changed, changed_to, falls, followed, happenings, passed, passed_to, resumed, set, start, step_at, step_of, timed, timed_at, with_bit, with_digits}
use Rattle.check_vcd.specs.Header as header
use Rattle.check_vcd.specs.Header.{Header, Opened, Var, words_behind, blank, opening}
use Rattle.check_vcd.specs.Token.{are_bits, is_end, plain_digit, token_kind}
use Rattle.check_vcd.specs.Words.{Front, Word, is_blank, line_after, nothing, with_byte, word_if_any, words_from, dump_words}
use Rattle.check_vcd.specs.declared.body.BodyPlace.{BodyPlace}
use Rattle.check_vcd.specs.declared.body.BodyPlace.TheVariants.{Plain, InComment, BehindVector, BehindOther}
use Rattle.check_vcd.specs.declared.body.TheConstants.{TIME_DIGITS}
use Rattle.check_vcd.specs.declared.codes.Coded.{Coded}
use Rattle.check_vcd.specs.declared.fault.Mistake.TheVariants.{BadValue, TimeFalls, TooWide}
use Rattle.check_vcd.specs.declared.scanner.TheConstants.{MAX_WORD}
use Rattle.check_vcd.specs.declared.token.TokenKind.{TokenKind}
use Rattle.check_vcd.specs.declared.token.TokenKind.TheVariants as kind
use Rattle.check_samples.specs.Sampling.{Sampling, rows_from}
use Rattle.check_wave_laws.specs.Text.{FindFits, HappensFit, HasRows, SamplingFits}
use Rattle.check_wave_laws.proofs.Text.{readable-from}

-- no more bytes of a word are kept than it has
abbrev pub WordsFit : List Word → Type 0
WordsFit [] = ⊤
WordsFit (word ∷ words) = (length word.bytes ≤ word.size) × WordsFit words

-- ---- one word

-- a value at hand has no more digits than its word had
abbrev IsShort : Body → Type 0
IsShort body = length body.value ≤ body.size

abbrev HappenFits : List ℕ → Happens → Type 0
HappenFits widths (At time) = time < 2 ^ 64
HappenFits widths (Sets slot digits) = length digits ≤ get_or widths slot 0
HappenFits widths (Resumes line) = ⊤
HappenFits widths (Wrong line mistake) = ⊤

abbrev StepFits : List ℕ → Step → Type 0
StepFits widths (Goes body) = IsShort body
StepFits widths (Gives body happens) = IsShort body × HappenFits widths happens
StepFits widths (Fails mistake) = ⊤

module _ (widths : List ℕ) (find : Find) (fit : FindFits widths find) where
  set-fits : (body : Body) (code : List ℕ) (coded : Coded) (slot : Option ℕ) → find code ≡ Some coded
      → coded.slot ≡ slot → body.size ≤ coded.width → IsShort body → StepFits widths (set body slot)
  set-fits body code coded None is at small short = short
  set-fits body code coded (Some slot) is at small short =
      (short, omega (arith, short, small, fit code coded slot is at))

  changed-fits : (body : Body) (code : List ℕ) → IsShort body → StepFits widths (changed find body code)
  changed-fits body code short = go (find code) refl
    where
      by : (coded : Coded) → find code ≡ Some coded → (t : Bool) → nat_lt coded.width body.size ≡ t
          → StepFits widths (cond t (Fails TooWide) (set body coded.slot))
      by coded is true wide = tt
      by coded is false fits =
          set-fits body code coded coded.slot is refl (ltb-false coded.width body.size fits) short

      go : (known : Option Coded) → find code ≡ known → StepFits widths (changed_to body known)
      go None is = tt
      go (Some coded) is = by coded is (nat_lt coded.width body.size) refl

  passed-fits : (body : Body) (code : List ℕ) → IsShort body → StepFits widths (passed find body code)
  passed-fits body code short = go (find code)
    where
      go : (known : Option Coded) → StepFits widths (passed_to body known)
      go None = tt
      go (Some coded) = short

number-small : (radix most : ℕ) (word : List ℕ) (n : ℕ) → number_of radix most word ≡ Some n → n < 2 ^ 64
number-small radix most word n is =
    go (nat_le (length word) most) (are_digits radix word) (nat_lt (digits_value radix word) (2 ^ 64)) refl is
  where
    go : (a b d : Bool) → nat_lt (digits_value radix word) (2 ^ 64) ≡ d
        → cond a (option_and_then (λ number. number)
        (cond b (Some (cond d (Some (digits_value radix word)) None)) None)) None ≡ Some n
        → n < 2 ^ 64
    go true true true ed e =
        let value : digits_value radix word ≡ n = cc in
        omega (arith, value, ltb-true (digits_value radix word) (2 ^ 64) ed)
    go true true false ed e = absurd (cc)
    go true false d ed e = absurd (cc)
    go false b d ed e = absurd (cc)

timed-fits : (widths : List ℕ) (body : Body) (digits : List ℕ) → IsShort body → StepFits widths (timed body digits)
timed-fits widths body digits short = go (number_of 10 TIME_DIGITS digits) refl
  where
    by : (time : ℕ) → time < 2 ^ 64 → (t : Bool)
        → StepFits widths (cond t (Fails TimeFalls) (Gives (record body { time = Some time }) (At time)))
    by time below true = tt
    by time below false = (short, below)

    go : (number : Option ℕ) → number_of 10 TIME_DIGITS digits ≡ number → StepFits widths (timed_at body number)
    go None is = tt
    go (Some time) is = by time (number-small 10 TIME_DIGITS digits time is) (falls body.time time)

digits-fit : (widths : List ℕ) (body : Body) (digits : List ℕ) (size : ℕ) → length digits ≤ size
    → StepFits widths (with_digits body digits size)
digits-fit widths body digits size short = go ((length digits == 0) || not (are_bits digits))
  where
    go : (t : Bool) → StepFits widths
        (cond t (Fails BadValue) (Goes (record body { place = BehindVector; value = map plain_digit digits; size = size })))
    go true = tt
    go false = omega (arith, length-map digits plain_digit, short)

module _ (widths : List ℕ) (find : Find) (fit : FindFits widths find) where
  resumed-fits : (body : Body) (line : ℕ) → IsShort body → StepFits widths (resumed body line)
  resumed-fits body line short = go body.is_off
    where
      go : (t : Bool) → StepFits widths (cond t (Gives (record body { is_off = false }) (Resumes line)) (Goes body))
      go true = (short, tt)
      go false = short

  begun-fits : (which : TokenKind) (body : Body) (line size first : ℕ) (rest : List ℕ) → IsShort body
      → length (first ∷ rest) ≤ size → StepFits widths (begun_by which find body line size first rest)
  begun-fits kind.Scalar body line size first rest short whole =
      changed-fits widths find fit (with_bit body first) rest (omega arith)
  begun-fits kind.Vector body line size first rest short whole =
      digits-fit widths body rest (size - 1) (omega (arith, whole))
  begun-fits kind.Time body line size first rest short whole = timed-fits widths body rest short
  begun-fits kind.Other body line size first rest short whole = short
  begun-fits kind.Comment body line size first rest short whole = short
  begun-fits kind.Ignored body line size first rest short whole = short
  begun-fits kind.Off body line size first rest short whole = short
  begun-fits kind.On body line size first rest short whole = resumed-fits body line short
  begun-fits kind.Unknown body line size first rest short whole = tt

  word-fits : (place : BodyPlace) (body : Body) (line size : ℕ) (word : List ℕ) → IsShort body → length word ≤ size
      → StepFits widths (step_at place find body line size word)
  word-fits Plain body line size [] short whole = tt
  word-fits Plain body line size (first ∷ rest) short whole =
      begun-fits (token_kind first (first ∷ rest)) body line size first rest short whole
  word-fits InComment body line size word short whole = go (is_end word)
    where
      go : (t : Bool) → IsShort (cond t (record body { place = Plain }) body)
      go true = short
      go false = short
  word-fits BehindVector body line size word short whole =
      changed-fits widths find fit (record body { place = Plain }) word short
  word-fits BehindOther body line size word short whole =
      passed-fits widths find fit (record body { place = Plain }) word short

  -- ---- all words

  followed-fits : (step : Step) (line : ℕ) (others : Body → List Happens) → StepFits widths step
      → ((body : Body) → IsShort body → HappensFit widths (others body)) → HappensFit widths (followed step line others)
  followed-fits (Goes body) line others fits more = more body fits
  followed-fits (Gives body (At time)) line others fits more = (fits.1, more body fits.0)
  followed-fits (Gives body (Sets slot digits)) line others fits more = (fits.1, more body fits.0)
  followed-fits (Gives body (Resumes at)) line others fits more = more body fits.0
  followed-fits (Gives body (Wrong at mistake)) line others fits more = tt
  followed-fits (Fails mistake) line others fits more = tt

  happens-fit : (words : List Word) (body : Body) → WordsFit words → IsShort body
      → HappensFit widths (happenings find words body)
  unfolding happenings
  happens-fit [] body whole short = tt
  happens-fit (word ∷ words) body whole short =
      followed-fits (step_of find body word.line word.size word.bytes) word.line (happenings find words)
      (word-fits body.place body word.line word.size word.bytes short whole.0)
      (λ next is. happens-fit words next whole.1 is)

-- ---- the words of a text

with-byte-fits : (front : Front) (byte : ℕ) → length front.bytes ≤ front.size
    → length (with_byte front byte).bytes ≤ (with_byte front byte).size
with-byte-fits front byte fits = go (nat_lt (length front.bytes) MAX_WORD)
  where
    go : (t : Bool) → length (cond t (front.bytes ++ (byte ∷ [])) front.bytes) ≤ front.size + 1
    go true = omega (arith, length-append front.bytes (byte ∷ []), fits)
    go false = omega (arith, fits)

word-then : (line : ℕ) (front : Front) (words : List Word) → length front.bytes ≤ front.size → WordsFit words
    → WordsFit (word_if_any line front ++ words)
word-then line front words fits more = go (front.size == 0)
  where
    go : (t : Bool)
        → WordsFit (cond t [] (record { line = line; bytes = front.bytes; size = front.size } ∷ []) ++ words)
    go true = more
    go false = (fits, more)

words-from-fit : (line : ℕ) (front : Front) (text : List ℕ) → length front.bytes ≤ front.size
    → WordsFit (words_from line front text)
unfolding words_from
words-from-fit line front [] fits = tt
words-from-fit line front (byte ∷ text) fits =
    go (is_blank byte) (words-from-fit (line_after line byte) nothing text (omega arith))
    (words-from-fit line (with_byte front byte) text (with-byte-fits front byte fits))
  where
    go : (t : Bool) → WordsFit (words_from (line_after line byte) nothing text)
        → WordsFit (words_from line (with_byte front byte) text)
        → WordsFit (cond t (word_if_any line front ++ words_from (line_after line byte) nothing text)
        (words_from line (with_byte front byte) text))
    go true blank letter = word-then line front (words_from (line_after line byte) nothing text) fits blank
    go false blank letter = letter

words-fit : (text : List ℕ) → WordsFit (dump_words text)
words-fit text = words-from-fit 1 nothing text (omega arith)

-- the words after a header
opened-fit : (words : List Word) (h : Header) (vars : List Var) (rest : List Word) → WordsFit words
    → opening words h ≡ Opened vars rest → WordsFit rest
unfolding opening
opened-fit [] h vars rest whole is = absurd (cc)
opened-fit (word ∷ words) h vars rest whole is =
    by (header.step_of h word.bytes) (λ next. opened-fit words next vars rest whole.1) is
  where
    by : (step : header.Step) → ((next : Header) → opening words next ≡ Opened vars rest → WordsFit rest)
        → words_behind step word words (opening words) ≡ Opened vars rest → WordsFit rest
    by (header.Goes next) others e = others next e
    by (header.Ends next) others e =
        let same : words ≡ rest = cc in subst WordsFit same whole.1
    by (header.Fails mistake) others e = absurd (cc)

pub dump-rows : (masters ports : List Bus) (told : Bool) (line : ℕ) (text : List ℕ) (vars : List Var) (words : List Word)
    (find : Find) (s : Sampling) → length masters < 2 ^ 64 → length ports < 2 ^ 64 → opening (dump_words text) blank ≡ Opened vars words
    → FindFits s.widths find → SamplingFits masters ports s → (is_some s.resets ≡ true → told ≡ true)
    → HasRows masters ports s.channels told line (rows_from (happenings find words start) s).text
dump-rows masters ports told line text vars words find s few_masters few_ports opened fit fits are =
    readable-from masters ports told few_masters few_ports (happenings find words start) s fits are
    (happens-fit s.widths find fit words start (opened-fit (dump_words text) blank vars words (words-fit text) opened)
    (omega arith)) line
