-- A record on a line without quotes has the parts of the line between its commas.
use Rattle.std.proofs.Common.{◌≡◌, ℕ, zero, suc, ◌+◌, ◌<◌, ◌==◌, Bool, true, false, cond, List, [], ◌∷◌, ◌++◌, Some, take, length, get_or, refl, sym, ap, ◌∙◌, arith, append_assoc, length-take}
use Rattle.std.specs.List.{All, onto_first}
use Rattle.std.proofs.lemmas.Bool.{false≢true, or_parts, ne_eqb}
use Rattle.std.proofs.lemmas.List.{append-nil, take_more}
use Rattle.std.proofs.lemmas.List.Elements.{All-head, All-tail}
use Rattle.std.proofs.lemmas.List.Splits.{length-slice_split, slice_split-cons_no, slice_split-cons_yes}
use Rattle.csv.specs.Machine.{next_record, step}
use Rattle.csv.specs.Reading.{default_config}
use Rattle.csv.specs.declared.parser.State.{State}
use Rattle.csv.specs.declared.parser.State.TheVariants as st
use Rattle.csv.specs.declared.parser.Action.TheVariants as act
use Rattle.check_records.specs.Bare.{IsBareLine, comma_parts, stops_bare}
use Rattle.check_records.specs.Draft.{EndsWith}
use Rattle.check_records.specs.Text.{bytes_from, is_line_end, line_feeds}
use Rattle.check_records.proofs.TextLemmas.{feeds-more, feeds-no}
use Rattle.check_records.proofs.WithinLemmas.{blank}

-- ---- what a byte does

-- the state after a record that this byte ends
abbrev after : ℕ → State
after byte = cond (byte == 13) st.AfterCr st.StartRecord

-- what a byte of such a line does in a state where it may begin a field or stand in one, and the byte that ends the line
record IsOpen (state : State) : Type 0 where
  takes : (byte : ℕ) → stops_bare byte ≡ false
      → step default_config state byte ≡ cond (byte == 44) (st.StartField, act.EndField) (st.InField, act.Copy)
  ends : (byte : ℕ) → is_line_end byte ≡ true → step default_config state byte ≡ (after byte, act.EndRecord)

no-comma : (byte : ℕ) → is_line_end byte ≡ true → (byte == 44) ≡ false
no-comma byte ends = ne_eqb byte 44 (λ is. false≢true (rw is at ends))

no-quote : (byte : ℕ) → is_line_end byte ≡ true → (byte == 34) ≡ false
no-quote byte ends = ne_eqb byte 34 (λ is. false≢true (rw is at ends))

open-field : IsOpen st.InField
open-field = record {
  takes = λ byte plain. rw (or_parts (is_line_end byte) (byte == 34) plain).0 refl;
  ends = λ byte ends. rw (no-comma byte ends, ends) refl;
}

open-start : IsOpen st.StartField
open-start = record {
  takes = λ byte plain. let parts = or_parts (is_line_end byte) (byte == 34) plain in rw (parts.0, parts.1) refl;
  ends = λ byte ends. rw (no-quote byte ends, no-comma byte ends, ends) refl;
}

-- ---- the parts of a line

-- the field at hand goes on with the first of these
abbrev join_first : List ℕ → List (List ℕ) → List (List ℕ)
join_first field [] = field ∷ []
join_first field (part ∷ parts) = (field ++ part) ∷ parts

-- there is a part
some-part : (line : List ℕ) → 0 < length (comma_parts line)
some-part line = let size = length-slice_split (λ (byte : ℕ). byte == 44) line in omega (arith, size)

join-none : (parts : List (List ℕ)) → 0 < length parts → join_first [] parts ≡ parts
join-none [] some = absurd (omega (arith, some))
join-none (part ∷ parts) some = refl

join-onto : (field : List ℕ) (byte : ℕ) (parts : List (List ℕ))
    → join_first (field ++ byte ∷ []) parts ≡ join_first field (onto_first byte parts)
join-onto field byte [] = refl
join-onto field byte (part ∷ parts) = ap (λ (xs : List ℕ). xs ∷ parts) (append_assoc field (byte ∷ []) part)

-- what is read of a line in such a state, with these fields and this one at hand
line-reads : (line rest : List ℕ) (end : ℕ) (state : State) (fields : List (List ℕ)) (field : List ℕ) → IsOpen state
    → All (λ byte. stops_bare byte ≡ false) line → is_line_end end ≡ true
    → next_record default_config state fields field (line ++ end ∷ rest)
    ≡ Some (fields ++ join_first field (comma_parts line), after end, rest)
unfolding next_record
line-reads [] rest end state fields field opens plain ends =
    rw (opens.ends end ends)
    (ap (λ (xs : List ℕ). Some (fields ++ xs ∷ [], after end, rest)) (sym (append-nil field)))
line-reads (byte ∷ line) rest end state fields field opens plain ends =
    go (byte == 44) refl (λ next all at_hand opened.
    line-reads line rest end next all at_hand opened (All-tail (λ c. stops_bare c ≡ false) byte line plain) ends)
  where
    here : stops_bare byte ≡ false
    here = All-head (λ c. stops_bare c ≡ false) byte line plain

    go : (comma : Bool) → (byte == 44) ≡ comma
        → ((next : State) (all : List (List ℕ)) (at_hand : List ℕ) → IsOpen next
        → next_record default_config next all at_hand (line ++ end ∷ rest)
        ≡ Some (all ++ join_first at_hand (comma_parts line), after end, rest))
        → next_record default_config state fields field (byte ∷ (line ++ end ∷ rest))
        ≡ Some (fields ++ join_first field (comma_parts (byte ∷ line)), after end, rest)
    go true is more =
        let does : step default_config state byte ≡ (st.StartField, act.EndField) =
        opens.takes byte here
        ∙ ap (λ (c : Bool). cond c (st.StartField, act.EndField) (st.InField, act.Copy)) is in
        let parts = slice_split-cons_yes (λ (c : ℕ). c == 44) byte line is in
        let tail : join_first [] (comma_parts line) ≡ comma_parts line = join-none (comma_parts line) (some-part line) in
        rw does
        (more st.StartField (fields ++ field ∷ []) [] open-start
        ∙ ap (λ (all : List (List ℕ)). Some (all, after end, rest)) (append_assoc fields (field ∷ []) (join_first [] (comma_parts line))
        ∙ ap (λ (xs : List (List ℕ)). fields ++ field ∷ xs) tail
        ∙ ap (λ (xs : List ℕ). fields ++ xs ∷ comma_parts line) (sym (append-nil field))
        ∙ ap (λ (xs : List (List ℕ)). fields ++ join_first field xs) (sym parts)))
    go false is more =
        let does : step default_config state byte ≡ (st.InField, act.Copy) =
        opens.takes byte here
        ∙ ap (λ (c : Bool). cond c (st.StartField, act.EndField) (st.InField, act.Copy)) is in
        let parts = slice_split-cons_no (λ (c : ℕ). c == 44) byte line is in
        rw does
        (more st.InField fields (field ++ byte ∷ []) open-field
        ∙ ap (λ (all : List (List ℕ)). Some (all, after end, rest)) (ap (λ (xs : List (List ℕ)). fields ++ xs)
        (join-onto field byte (comma_parts line) ∙ ap (join_first field) (sym parts))))

-- the bytes of the record are those of the line
line-bytes : (line rest : List ℕ) (end : ℕ) (state : State) → IsOpen state
    → All (λ byte. stops_bare byte ≡ false) line → is_line_end end ≡ true
    → bytes_from state (line ++ end ∷ rest) ≡ line
unfolding bytes_from
line-bytes [] rest end state opens plain ends = rw (opens.ends end ends) refl
line-bytes (byte ∷ line) rest end state opens plain ends =
    go (byte == 44) refl (λ next opened.
    line-bytes line rest end next opened (All-tail (λ c. stops_bare c ≡ false) byte line plain) ends)
  where
    here : stops_bare byte ≡ false
    here = All-head (λ c. stops_bare c ≡ false) byte line plain

    go : (comma : Bool) → (byte == 44) ≡ comma
        → ((next : State) → IsOpen next → bytes_from next (line ++ end ∷ rest) ≡ line)
        → bytes_from state (byte ∷ (line ++ end ∷ rest)) ≡ byte ∷ line
    go true is more =
        let does : step default_config state byte ≡ (st.StartField, act.EndField) =
        opens.takes byte here
        ∙ ap (λ (c : Bool). cond c (st.StartField, act.EndField) (st.InField, act.Copy)) is in
        rw does (ap (λ (xs : List ℕ). byte ∷ xs) (more st.StartField open-start))
    go false is more =
        let does : step default_config state byte ≡ (st.InField, act.Copy) =
        opens.takes byte here
        ∙ ap (λ (c : Bool). cond c (st.StartField, act.EndField) (st.InField, act.Copy)) is in
        rw does (ap (λ (xs : List ℕ). byte ∷ xs) (more st.InField open-field))

-- ---- a text that begins with a line

-- the first byte of a record does what it does at the beginning of a field
start-reads : (byte : ℕ) (text : List ℕ) → is_line_end byte ≡ false
    → next_record default_config st.StartRecord [] [] (byte ∷ text)
    ≡ next_record default_config st.StartField [] [] (byte ∷ text)
unfolding next_record
start-reads byte text first = rw first refl

start-bytes : (byte : ℕ) (text : List ℕ) → is_line_end byte ≡ false
    → bytes_from st.StartRecord (byte ∷ text) ≡ bytes_from st.StartField (byte ∷ text)
unfolding bytes_from
start-bytes byte text first = rw first refl

-- the line, the byte that ends it, and what follows
line-parts : (text : List ℕ) (n : ℕ) (rest : List ℕ) → n < length text
    → take (n + 1) text ++ rest ≡ take n text ++ get_or text n 0 ∷ rest
line-parts text n rest inside =
    ap (λ (xs : List ℕ). xs ++ rest) (take_more text n 0 inside)
    ∙ append_assoc (take n text) (get_or text n 0 ∷ []) rest

all-plain : (text : List ℕ) (n : ℕ) → n < length text
    → ((place : ℕ) → place < n → stops_bare (get_or text place 0) ≡ false)
    → All (λ byte. stops_bare byte ≡ false) (take n text)
all-plain text zero inside plain = λ k d below. absurd (omega (arith, below))
all-plain [] (suc n) inside plain = absurd (omega (arith, inside))
all-plain (byte ∷ text) (suc n) inside plain =
    go (all-plain text n (omega (arith, inside)) (λ place below. plain (suc place) (omega (arith, below))))
  where
    go : All (λ c. stops_bare c ≡ false) (take n text) → All (λ c. stops_bare c ≡ false) (byte ∷ take n text)
    go rest zero d below = plain 0 (omega arith)
    go rest (suc k) d below = rest k d (omega (arith, below))

pub bare-ends : (text : List ℕ) (n : ℕ) → IsBareLine text n → is_line_end (get_or text 0 0) ≡ false
    → EndsWith blank (take (n + 1) text) (comma_parts (take n text)) n
bare-ends [] n line first = absurd (let inside = line.inside in omega (arith, inside))
bare-ends (byte ∷ text) zero line first = absurd (false≢true (sym first ∙ line.ends))
bare-ends (byte ∷ text) (suc n) line first =
    let whole = byte ∷ text in
    let front = byte ∷ take n text in
    let end = get_or whole (suc n) 0 in
    let plain : All (λ c. stops_bare c ≡ false) front = all-plain whole (suc n) line.inside line.bare in
    record {
      state = after end;
      becomes = λ rest.
          ap (next_record default_config st.StartRecord [] []) (line-parts whole (suc n) rest line.inside)
          ∙ start-reads byte (take n text ++ end ∷ rest) first
          ∙ line-reads front rest end st.StartField [] [] open-start plain line.ends
          ∙ ap (λ (xs : List (List ℕ)). Some (xs, after end, rest)) (join-none (comma_parts front) (some-part front));
      has_size = λ rest.
          let bytes : bytes_from st.StartRecord (take (suc n + 1) whole ++ rest) ≡ front =
          ap (bytes_from st.StartRecord) (line-parts whole (suc n) rest line.inside)
          ∙ start-bytes byte (take n text ++ end ∷ rest) first
          ∙ line-bytes front rest end st.StartField open-start plain line.ends in
          let size = ap (λ (xs : List ℕ). length xs) bytes in
          let inside = line.inside in
          omega (arith, size, inside, length-take n text);
    }

-- no byte of the line is a line feed
no-feeds : (text : List ℕ) (n : ℕ) → n < length text
    → ((place : ℕ) → place < n → stops_bare (get_or text place 0) ≡ false) → line_feeds (take n text) ≡ 0
no-feeds text zero inside plain = refl
no-feeds text (suc n) inside plain =
    let within : n < length text = omega (arith, inside) in
    let so_far = no-feeds text n within (λ place below. plain place (omega (arith, below))) in
    let one : suc n ≡ n + 1 = omega arith in
    ap (λ (k : ℕ). line_feeds (take k text)) one
    ∙ feeds-no text n within (λ is. false≢true (sym (rw is at (plain n (omega arith)))))
    ∙ so_far

pub bare-feeds : (text : List ℕ) (n : ℕ) → IsBareLine text n
    → line_feeds (take (n + 1) text) ≡ cond (get_or text n 0 == 10) 1 0
bare-feeds text n line =
    let more = feeds-more text n line.inside in
    let none = no-feeds text n line.inside line.bare in
    omega (arith, more, none)
