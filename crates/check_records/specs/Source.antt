-- A reader, and the bytes of it that were read and not yet taken. This project's own.
use Rattle.std.specs.Prelude.{◌≡◌, ℕ, ◌+◌, ◌<◌, Bool, true, false, List, [], length, slice_range, get_or, Option, None, Some, ⊤}
use Rattle.std.specs.Io.KnownBytes.{IsAtEnd, prepend_known}
use Rattle.check_records.specs.Text.{TextPlace, is_line_end, line_feeds, record_bytes, record_line}
use Rattle.csv.specs.Machine.{next_record}
use Rattle.csv.specs.Reading.{default_config}
use Rattle.csv.specs.declared.parser.State.TheVariants as st
use Rattle.check_records.specs.declared.source.Source.{Source}

-- the bytes at hand
abbrev pub at_hand : {R : Type 0} → Source R → List ℕ
at_hand source = slice_range source.chunk.items source.next source.filled

-- the last line without quotes that was taken whole
abbrev pub bare_of : {R : Type 0} → Source R → List ℕ
bare_of source = slice_range source.chunk.items source.bare_start source.bare_end

-- the text that is left, where the reader tells its bytes
abbrev pub text_left : {R : Type 0} → (R → Option (List ℕ)) → Source R → Option (List ℕ)
text_left remaining source = prepend_known (at_hand source) (remaining source.reader)

-- a text that is known stays known, and the two are so related
abbrev pub StaysKnown : Option (List ℕ) → Option (List ℕ) → (List ℕ → List ℕ → Type 0) → Type 0
StaysKnown None new P = ⊤
StaysKnown (Some old) None P = ⊥
StaysKnown (Some old) (Some new) P = P old new

-- a text that is left, if it is known, and the line on which it begins
pub record TextLeft : Type 0 where
  pub line : ℕ
  pub text : Option (List ℕ)

-- the text that is left of a reader, if it is known, and the line on which it begins. Ends of lines that stand before a
-- record change nothing but the line.
abbrev pub left : {R : Type 0} → (R → Option (List ℕ)) → Source R → TextLeft
left remaining source = record { line = source.line; text = text_left remaining source }

-- the same of places
abbrev pub Between : TextLeft → TextLeft → (TextPlace → TextPlace → Type 0) → Type 0
Between old new P =
    StaysKnown old.text new.text
    (λ from to. P (record { line = old.line; text = from }) (record { line = new.line; text = to }))

-- the two places have the same next record
pub record HasSameNext (from to : TextPlace) : Type 0 where
  pub reads : next_record default_config st.StartRecord [] [] from.text
      ≡ next_record default_config st.StartRecord [] [] to.text
  pub bytes : record_bytes from.text ≡ record_bytes to.text
  pub begins : record_line from ≡ record_line to
  pub lines : to.line + line_feeds to.text ≡ from.line + line_feeds from.text

-- the first byte of a record is at hand, or else no byte is left
abbrev pub HasFirst : {R : Type 0} → (R → Option (List ℕ)) → Source R → Bool → Type 0
HasFirst remaining source true = (0 < length (at_hand source)) × (is_line_end (get_or (at_hand source) 0 0) ≡ false)
HasFirst remaining source false = (at_hand source ≡ []) × IsAtEnd (remaining source.reader)
