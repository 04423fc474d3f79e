-- A text from where its next record begins, and the record while it is read.
use Rattle.std.proofs.Common.{◌≡◌, ℕ, ◌+◌, ◌<◌, ◌≤◌, true, false, List, [], ◌∷◌, ◌++◌, take, drop, length, get_or, refl, sym, ap, ◌∙◌, arith, append_assoc, take-append-drop}
use Rattle.csv.specs.Machine.{ends_at_end, next_record}
use Rattle.csv.specs.Reading.{default_config}
use Rattle.csv.specs.declared.parser.State.TheVariants as st
use Rattle.check_records.specs.Draft.{EndsWith, DraftGoesOn, Partial, becomes, full_size}
use Rattle.check_records.specs.Source.{HasSameNext}
use Rattle.check_records.specs.Text.{Ends, GivesRecord, IsTooLong, TextPlace, RecordRow, bytes_from, is_line_end, line_feeds, record_bytes, record_line}
use Rattle.check_records.specs.declared.draft.TheConstants.{MAX_ROW}
use Rattle.check_records.proofs.TextLemmas.{feeds-append, from-first, line-first}

-- the record at hand, which begins on this line, is the next of the one place, and the other place is within it
pub record IsWithin (from : TextPlace) (p : Partial) (line : ℕ) (to : TextPlace) : Type 0 where
  pub reads : next_record default_config st.StartRecord [] [] from.text ≡ becomes p to.text
  pub size : length (record_bytes from.text) ≡ full_size p to.text
  pub begins : line ≡ record_line from
  pub lines : to.line + line_feeds to.text ≡ from.line + line_feeds from.text

-- the record of which nothing was read
abbrev pub blank : Partial
blank = record { state = st.StartRecord; fields = []; field = []; size = 0 }

pub within-begin : (line : ℕ) (hand rest : List ℕ) → 0 < length hand → is_line_end (get_or hand 0 0) ≡ false
    → IsWithin (record { line = line; text = hand ++ rest }) blank line (record { line = line; text = hand ++ rest })
within-begin line [] rest some first = absurd (omega (arith, some))
within-begin line (byte ∷ more) rest some first =
    let same : length (record_bytes (byte ∷ (more ++ rest))) ≡ length
    (bytes_from st.StartRecord (byte ∷ (more ++ rest))) =
    ap (λ (text : List ℕ). length (bytes_from st.StartRecord text)) (from-first byte (more ++ rest) first) in
    record {
      reads = refl;
      size = omega (arith, same);
      begins = sym (line-first line byte (more ++ rest) first);
      lines = refl;
    }

-- bytes that belong to it
pub within-more : (from : TextPlace) (p q : Partial) (row line : ℕ) (bytes rest : List ℕ)
    → IsWithin from p row (record { line = line; text = bytes ++ rest }) → DraftGoesOn p bytes q
    → IsWithin from q row (record { line = line + line_feeds bytes; text = rest })
within-more from p q row line bytes rest within on =
    let lines = within.lines in
    let feeds = feeds-append bytes rest in
    record {
      reads = within.reads ∙ on.becomes rest;
      size = within.size ∙ on.size rest;
      begins = within.begins;
      lines = omega (arith, lines, feeds);
    }

-- bytes that end it
pub gives-end : (from : TextPlace) (p : Partial) (row line size n : ℕ) (fields : List (List ℕ)) (hand rest : List ℕ)
    → IsWithin from p row (record { line = line; text = hand ++ rest }) → EndsWith p (take n hand) fields size
    → size ≤ MAX_ROW
    → GivesRecord from (record { line = row; fields = fields })
    (record { line = line + line_feeds (take n hand); text = drop n hand ++ rest })
gives-end from p row line size n fields hand rest within ends short =
    let parts : hand ++ rest ≡ take n hand ++ (drop n hand ++ rest) =
    ap (λ (xs : List ℕ). xs ++ rest) (sym (take-append-drop n hand)) ∙ append_assoc (take n hand) (drop n hand) rest in
    let feeds : line_feeds (hand ++ rest) ≡ line_feeds (take n hand) + line_feeds (drop n hand ++ rest) =
    ap line_feeds parts ∙ feeds-append (take n hand) (drop n hand ++ rest) in
    let lines = within.lines in
    let whole : length (record_bytes from.text) ≡ size =
    within.size ∙ ap (full_size p) parts ∙ ends.has_size (drop n hand ++ rest) in
    record {
      state = ends.state;
      reads = within.reads ∙ ap (becomes p) parts ∙ ends.becomes (drop n hand ++ rest);
      begins = within.begins;
      short = omega (arith, whole, short);
      lines = omega (arith, lines, feeds);
    }

-- the end of the text ends it
pub gives-last : (from : TextPlace) (p : Partial) (row line : ℕ) → IsWithin from p row (record { line = line; text = [] })
    → ends_at_end p.state ≡ true
    → p.size ≤ MAX_ROW → GivesRecord from (record { line = row; fields = p.fields ++ (p.field ∷ []) })
    (record { line = line; text = [] })
unfolding next_record bytes_from
gives-last from p row line within ends short =
    let whole = within.size in
    record {
      state = st.StartRecord;
      reads = within.reads ∙ rw ends refl;
      begins = within.begins;
      short = omega (arith, whole, short);
      lines = within.lines;
    }

pub ends-last : (from : TextPlace) (p : Partial) (row line : ℕ) → IsWithin from p row (record { line = line; text = [] })
    → ends_at_end p.state ≡ false
    → Ends from (record { line = line; text = [] })
unfolding next_record
ends-last from p row line within ends = record { none = within.reads ∙ rw ends refl; used_up = refl }

-- it gets too long
pub long-within : (from : TextPlace) (p : Partial) (row line : ℕ) (text : List ℕ)
    → IsWithin from p row (record { line = line; text = text })
    → MAX_ROW < full_size p text → IsTooLong from row
long-within from p row line text within long =
    let whole = within.size in record { begins = within.begins; long = omega (arith, whole, long) }

-- ---- what holds of a place with the same next record

pub gives-same : (from here to : TextPlace) (row : RecordRow) → HasSameNext from here → GivesRecord here row to → GivesRecord from row to
gives-same from here to row same gives =
    let bytes = ap (λ (xs : List ℕ). length xs) same.bytes in
    let short = gives.short in
    record {
      state = gives.state;
      reads = same.reads ∙ gives.reads;
      begins = gives.begins ∙ sym same.begins;
      short = omega (arith, bytes, short);
      lines = gives.lines ∙ same.lines;
    }

pub ends-same : (from here to : TextPlace) → HasSameNext from here → Ends here to → Ends from to
ends-same from here to same ends = record { none = same.reads ∙ ends.none; used_up = ends.used_up }

pub long-same : (from here : TextPlace) (line : ℕ) → HasSameNext from here → IsTooLong here line → IsTooLong from line
long-same from here line same long =
    let bytes = ap (λ (xs : List ℕ). length xs) same.bytes in
    let more = long.long in
    record { begins = long.begins ∙ sym same.begins; long = omega (arith, bytes, more) }

-- no text is left
pub ends-none : (line : ℕ) → Ends (record { line = line; text = [] }) (record { line = line; text = [] })
unfolding next_record
ends-none line = record { none = refl; used_up = refl }
