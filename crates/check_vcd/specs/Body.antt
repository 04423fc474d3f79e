-- The body of a dump: what happens in it, word by word. IEEE 1364, "Value change dump files"; which words are wrong, and
-- what they are called then, is this project's own.
use Rattle.std.specs.Prelude.{◌≡◌, ℕ, ◌-◌, ◌||◌, ◌==◌, Bool, true, false, not, nat_lt, List, [], ◌∷◌, length, map, Option, None, Some, Result, Ok, Err, if◌then◌else◌}
use Rattle.tl_text.specs.Number.{number_of}
use Rattle.check_vcd.specs.Token.{are_bits, is_end, plain_digit, token_kind}
use Rattle.check_vcd.specs.Words.{Word}
use Rattle.check_vcd.specs.declared.body.TheConstants.{TIME_DIGITS}
use Rattle.check_vcd.specs.declared.body.Body as code_body
use Rattle.check_vcd.specs.declared.body.Event.{Event}
use Rattle.check_vcd.specs.declared.body.Event.TheVariants as event
use Rattle.check_vcd.specs.declared.body.BodyPlace.{BodyPlace}
use Rattle.check_vcd.specs.declared.body.BodyPlace.TheVariants.{Plain, InComment, BehindVector, BehindOther}
use Rattle.check_vcd.specs.declared.codes.Coded.{Coded}
use Rattle.check_vcd.specs.declared.fault.Mistake.{Mistake}
use Rattle.check_vcd.specs.declared.fault.Mistake.TheVariants.{NotADump, NoSuchIdentifier, BadValue, TooWide, TimeFalls}
use Rattle.check_vcd.specs.declared.fault.WordFault.{WordFault}
use Rattle.check_vcd.specs.declared.fault.WordFault.TheVariants as word
use Rattle.check_vcd.specs.declared.token.TokenKind.{TokenKind}
use Rattle.check_vcd.specs.declared.token.TokenKind.TheVariants as kind

-- ---- what happens

-- a time begins; the value in a slot becomes these digits, the highest first; on this line changes are told again, after
-- they were not; or this line is wrong, and nothing after it counts
pub data Happens : Type 0 where
  At : ℕ → Happens
  Sets : ℕ → List ℕ → Happens
  Resumes : ℕ → Happens
  Wrong : ℕ → Mistake → Happens

-- what is known of an identifier, if it is declared
abbrev pub Find : Type 0
Find = List ℕ → Option Coded

-- ---- one word

-- where a word stands: after what, after which value of how many digits, after which time, and whether changes are not
-- told
pub record Body : Type 0 where
  pub place : BodyPlace
  pub value : List ℕ
  pub size : ℕ
  pub time : Option ℕ
  pub is_off : Bool

-- before the first word
abbrev pub start : Body
start = record { place = Plain; value = []; size = 0; time = None; is_off = false }

-- what a word does: nothing but leading on, something that happens, or it is wrong
pub data Step : Type 0 where
  Goes : Body → Step
  Gives : Body → Happens → Step
  Fails : Mistake → Step

-- the value at hand is of a slot that is kept, or of none
abbrev pub set : Body → Option ℕ → Step
set body None = Goes body
set body (Some slot) = Gives body (Sets slot body.value)

-- the value at hand is that of an identifier
abbrev pub changed_to : Body → Option Coded → Step
changed_to body None = Fails NoSuchIdentifier
changed_to body (Some coded) = if nat_lt coded.width body.size then Fails TooWide else set body coded.slot

-- the value at hand is that of this identifier, which has to be declared, with as many bits as the value has digits or
-- more.
abbrev pub changed : Find → Body → List ℕ → Step
changed find body code = changed_to body (find code)

-- a value that is not of bits is that of an identifier
abbrev pub passed_to : Body → Option Coded → Step
passed_to body None = Fails NoSuchIdentifier
passed_to body (Some coded) = Goes body

-- a value that is not of bits is that of this identifier, which has to be declared.
abbrev pub passed : Find → Body → List ℕ → Step
passed find body code = passed_to body (find code)

-- a time is below the one before it.
abbrev pub falls : Option ℕ → ℕ → Bool
falls None time = false
falls (Some last) time = nat_lt time last

-- a time begins, if it does not fall; a word that is no time is a mistake.
abbrev pub timed_at : Body → Option ℕ → Step
timed_at body None = Fails NotADump
timed_at body (Some time) =
    if falls body.time time then Fails TimeFalls else Gives (record body { time = Some time }) (At time)

-- a time begins, of these decimal digits.
abbrev pub timed : Body → List ℕ → Step
timed body digits = timed_at body (number_of 10 TIME_DIGITS digits)

-- a value of one bit, as what it stands for
abbrev pub with_bit : Body → ℕ → Body
with_bit body digit = record body { value = plain_digit digit ∷ []; size = 1 }

-- a value of several
abbrev pub with_digits : Body → List ℕ → ℕ → Step
with_digits body digits size =
    if (length digits == 0) || not (are_bits digits) then Fails BadValue
    else Goes (record body { place = BehindVector; value = map plain_digit digits; size = size })

-- changes are told from this line on
abbrev pub resumed : Body → ℕ → Step
resumed body line = if body.is_off then Gives (record body { is_off = false }) (Resumes line) else Goes body

-- a word on this line that begins something new, by its first byte and the others
abbrev pub begun_by : TokenKind → Find → Body → ℕ → ℕ → ℕ → List ℕ → Step
begun_by kind.Scalar find body line size first rest = changed find (with_bit body first) rest
begun_by kind.Vector find body line size first rest = with_digits body rest (size - 1)
begun_by kind.Time find body line size first rest = timed body rest
begun_by kind.Other find body line size first rest = Goes (record body { place = BehindOther })
begun_by kind.Comment find body line size first rest = Goes (record body { place = InComment })
begun_by kind.Ignored find body line size first rest = Goes body
begun_by kind.Off find body line size first rest = Goes (record body { is_off = true })
begun_by kind.On find body line size first rest = resumed body line
begun_by kind.Unknown find body line size first rest = Fails NotADump

-- what a word on this line of so many bytes begins; the list has its bytes as far as they are kept.
abbrev pub begun : Find → Body → ℕ → ℕ → List ℕ → Step
begun find body line size [] = Fails NotADump
begun find body line size (first ∷ rest) = begun_by (token_kind first (first ∷ rest)) find body line size first rest

-- a word on this line of so many bytes, by where it stands
abbrev pub step_at : BodyPlace → Find → Body → ℕ → ℕ → List ℕ → Step
step_at Plain find body line size word = begun find body line size word
step_at InComment find body line size word = Goes (if is_end word then record body { place = Plain } else body)
step_at BehindVector find body line size word = changed find (record body { place = Plain }) word
step_at BehindOther find body line size word = passed find (record body { place = Plain }) word

-- what a word on this line of so many bytes does; the list has its bytes as far as they are kept.
abbrev pub step_of : Find → Body → ℕ → ℕ → List ℕ → Step
step_of find body line size word = step_at body.place find body line size word

-- ---- all words

-- what happens at a word, and then at the others
abbrev pub followed : Step → ℕ → (Body → List Happens) → List Happens
followed (Goes body) line others = others body
followed (Gives body happens) line others = happens ∷ others body
followed (Fails mistake) line others = Wrong line mistake ∷ []

-- what happens in words that stand so
unfoldable pub happenings : Find → List Word → Body → List Happens
happenings find [] body = []
happenings find (word ∷ words) body =
    followed (step_of find body word.line word.size word.bytes) word.line (happenings find words)

-- ---- what calls answer

-- what contracts see of where a word stands.
abbrev pub body_of : code_body.Body → Body
body_of body = record {
  place = body.place;
  value = body.value.items;
  size = body.size;
  time = body.time;
  is_off = body.is_off;
}

-- an event, with the value at hand
abbrev pub happens_of : Event → List ℕ → Happens
happens_of (event.Time time) value = At time
happens_of (event.Change slot) value = Sets slot value
happens_of (event.Resume line) value = Resumes line

-- what a word did, by the event that was answered; without one it led on.
abbrev pub told : Option Event → Body → Step
told None body = Goes body
told (Some event) body = Gives body (happens_of event body.value)

-- the word did this, unless memory ran out
abbrev pub Tells : Result (Option Event) WordFault → Step → code_body.Body → Type 0
Tells (Ok event) step body = step ≡ told event (body_of body)
Tells (Err (word.Wrong mistake)) step body = step ≡ Fails mistake
Tells (Err word.Memory) step body = Unit {0}
