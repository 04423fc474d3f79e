-- A dump: its header, and then what happens in it. This project's own.
use Rattle.std.specs.Prelude.{◌≡◌, ◌⊎◌, ℕ, List, [], ◌∷◌, Option, None, Some, IfSome, option_map, if◌then◌else◌}
use Rattle.std.specs.Str.{bytes_eq}
use Rattle.check_vcd.specs.Body.{Body, Happens, Wrong, happenings, happens_of, start}
use Rattle.check_vcd.specs.Codes.{coded_in, find_in}
use Rattle.check_vcd.specs.Header.{Cut, Opened, Refused, Var, blank, opening}
use Rattle.check_vcd.specs.Words.{Both, Word, dump_words}
use Rattle.check_vcd.specs.declared.body.Event.{Event}
use Rattle.check_vcd.specs.declared.codes.Coded.{Coded}
use Rattle.check_vcd.specs.declared.codes.Codes.{Codes}
use Rattle.check_vcd.specs.declared.fault.Mistake.{Mistake}
use Rattle.check_vcd.specs.declared.fault.Mistake.TheVariants.{CutInHeader}

-- a dump after its header: the words that are left, where the reader underneath tells its bytes; what is known of
-- identifiers; and where the next word stands
pub record Dumping : Type 0 where
  pub words : Option (List Word)
  pub codes : Codes
  pub body : Body

-- what is left to happen
abbrev pub happens_in : Dumping → Option (List Happens)
happens_in dump = option_map (λ words. happenings (find_in dump.codes) words dump.body) dump.words

-- ---- the header

-- the header declares these signals
abbrev pub IsOpened : Option (List Word) → Option (List Word) → List Var → Type 0
IsOpened old new vars = Both old new (λ from to. opening from blank ≡ Opened vars to)

-- the header is wrong so, or it is cut
abbrev pub IsWrongHeader : List Word → ℕ → Mistake → Type 0
IsWrongHeader words line mistake =
    (opening words blank ≡ Refused line mistake) ⊎ ((opening words blank ≡ Cut) × (mistake ≡ CutInHeader))

-- the words that are left are those of a header that is wrong so, on this line; nothing is said if they are not known.
abbrev pub IsMistakeAt : Option (List Word) → ℕ → Mistake → Type 0
IsMistakeAt left line mistake = IfSome left (λ words. IsWrongHeader words line mistake)

-- the text of a reader begins with a header that declares these signals, and the dump is what stands after it
pub record Opens (text : Option (List ℕ)) (vars : List Var) (dump : Dumping) : Type 0 where
  pub words : Both (option_map dump_words text) dump.words (λ from to. opening from blank ≡ Opened vars to)
  pub find : (code : List ℕ) → find_in dump.codes code ≡ coded_in vars code
  pub body : dump.body ≡ start

-- a text begins with a header that is wrong so, on this line; nothing is said if the text is not known.
abbrev pub IsNoDump : Option (List ℕ) → ℕ → Mistake → Type 0
IsNoDump text line mistake = IfSome text (λ bytes. IsWrongHeader (dump_words bytes) line mistake)

-- ---- the body

-- an identifier with a slot, if it is declared
abbrev pub with_slot : ℕ → Option Coded → Option Coded
with_slot slot known = option_map (λ coded. record { width = coded.width; slot = Some slot }) known

-- its values are kept there, and nothing else is changed
abbrev pub KeepsValue : Dumping → List ℕ → ℕ → Dumping → Type 0
KeepsValue old code slot new =
    (other : List ℕ) → find_in new.codes other
    ≡ (if bytes_eq code other then with_slot slot (find_in old.codes other) else find_in old.codes other)

-- this happened next, or nothing is left
abbrev pub Happened : Dumping → Dumping → Option Event → Type 0
Happened old new None = Both (happens_in old) (happens_in new) (λ from to. (from ≡ []) × (to ≡ []))
Happened old new (Some event) =
    Both (happens_in old) (happens_in new) (λ from to. from ≡ happens_of event new.body.value ∷ to)

-- the next word is wrong
abbrev pub IsWrong : Dumping → ℕ → Mistake → Type 0
IsWrong dump line mistake = IfSome (happens_in dump) (λ happens. happens ≡ Wrong line mistake ∷ [])
