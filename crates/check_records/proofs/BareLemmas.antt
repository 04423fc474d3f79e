-- A field that begins with no quote, read at once.
use Rattle.std.proofs.Common.{◌≡◌, ◌≢◌, if◌then◌else◌, ℕ, zero, suc, ◌+◌, ◌-◌, ◌<◌, ◌≤◌, ◌==◌, Bool, true, false, not, List, [], ◌∷◌, ◌++◌, take, drop, length, get_or, slice_range, refl, sym, ap, ap₂, ◌∙◌, subst, arith, append_assoc, length-append, length-take, length-drop, take-add, get_or-drop}
use Rattle.std.proofs.lemmas.Bool.{false≢true, ne_eqb, or_parts}
use Rattle.std.proofs.lemmas.List.{take_more}
use Rattle.csv.specs.Machine.{field_after, fields_after, is_end, step}
use Rattle.csv.specs.Reading.{default_config}
use Rattle.csv.specs.declared.parser.State.{State}
use Rattle.csv.specs.declared.parser.State.TheVariants as st
use Rattle.csv.specs.declared.parser.Action.{Action}
use Rattle.csv.specs.declared.parser.Action.TheVariants as act
use Rattle.check_records.specs.Draft.{EndsWith, DraftGoesOn, Partial, action_at, text_behind}
use Rattle.check_records.specs.Machine.{begins_field, ends_field}
use Rattle.check_records.specs.Text.{is_line_end, line_feeds}
use Rattle.check_records.proofs.FeedLemmas.{part-behind}
use Rattle.check_records.proofs.TextLemmas.{feeds-no}
use Rattle.check_records.proofs.DraftLemmas.{ends-behind, ends-more, goes-more, goes-none, goes-trans}

-- ---- what a byte does

-- a byte that begins a field does what it does after a comma
pub starts-field : (state : State) (byte : ℕ) → begins_field state byte ≡ true
    → step default_config state byte ≡ step default_config st.StartField byte
starts-field st.StartRecord byte begins = rw (not-true (is_line_end byte) begins) refl
  where
    not-true : (b : Bool) → not b ≡ true → b ≡ false
    not-true true is = sym is
    not-true false is = refl
starts-field st.StartField byte begins = refl
starts-field st.InField byte begins = absurd (false≢true begins)
starts-field st.InQuoted byte begins = absurd (false≢true begins)
starts-field st.AfterQuote byte begins = absurd (false≢true begins)
starts-field st.AfterCr byte begins = absurd (false≢true begins)
starts-field st.InEscape byte begins = absurd (false≢true begins)
starts-field st.InComment byte begins = absurd (false≢true begins)

-- a byte that ends no field joins one
joins : (byte : ℕ) → ends_field byte ≡ false → step default_config st.InField byte ≡ (st.InField, act.Copy)
joins byte plain =
    let parts = or_parts (byte == 44) (is_line_end byte) plain in
    rw (parts.0, parts.1) refl

joins-first : (byte : ℕ) → ends_field byte ≡ false → byte ≢ 34
    → step default_config st.StartField byte ≡ (st.InField, act.Copy)
joins-first byte plain unquoted = rw (ne_eqb byte 34 unquoted) (joins byte plain)

-- ---- the bytes of a field

-- a record at the beginning of a field, after these bytes of it
abbrev pub within : Partial → List ℕ → Partial
within p [] = p
within p (byte ∷ bytes) = record {
  state = st.InField;
  fields = p.fields;
  field = byte ∷ bytes;
  size = p.size + length (byte ∷ bytes);
}

-- a record at the beginning of a field, and the bytes of it that are at hand
pub record IsBare (p : Partial) (bytes : List ℕ) : Type 0 where
  pub none : p.field ≡ []
  pub goes : DraftGoesOn p bytes (within p bytes)

pub bare-none : (p : Partial) → p.field ≡ [] → IsBare p []
bare-none p none = record { none = none; goes = goes-none p }

-- what the next byte does to it
acts : (p : Partial) (bytes : List ℕ) (byte : ℕ)
    → (bytes ≡ [] → step default_config p.state byte ≡ step default_config st.StartField byte)
    → ends_field byte ≡ false → (bytes ≡ [] → byte ≢ 34)
    → step default_config (within p bytes).state byte ≡ (st.InField, act.Copy)
acts p [] byte first plain unquoted = first refl ∙ joins-first byte plain (unquoted refl)
acts p (b ∷ bytes) byte first plain unquoted = joins byte plain

-- a record at the beginning of a field, after bytes of it and a byte that does this
abbrev next : Partial → List ℕ → ℕ → State × Action → List ℕ → ℕ → Partial
next p bytes byte does field size = record {
  state = does.0;
  fields = fields_after does.1 p.fields field;
  field = field_after does.1 byte field;
  size = size + 1;
}

-- what a record has of a field whose bytes are at hand
field-within : (p : Partial) (bytes : List ℕ) → p.field ≡ [] → (within p bytes).field ≡ bytes
field-within p [] none = none
field-within p (b ∷ bytes) none = refl

fields-within : (p : Partial) (bytes : List ℕ) → (within p bytes).fields ≡ p.fields
fields-within p [] = refl
fields-within p (b ∷ bytes) = refl

size-within : (p : Partial) (bytes : List ℕ) → (within p bytes).size ≡ p.size + length bytes
size-within p [] = omega arith
size-within p (b ∷ bytes) = refl

joined : (p : Partial) (bytes : List ℕ) (byte : ℕ) → p.field ≡ []
    → step default_config (within p bytes).state byte ≡ (st.InField, act.Copy)
    → text_behind (within p bytes) byte ≡ within p (bytes ++ byte ∷ [])
joined p [] byte none is =
    let make : State × Action → List ℕ → Partial = λ does field. next p [] byte does field p.size in ap₂ make is none
joined p (b ∷ bytes) byte none is =
    let make : State × Action → ℕ → Partial = λ does size. record {
      state = does.0;
      fields = fields_after does.1 p.fields (b ∷ bytes);
      field = field_after does.1 byte (b ∷ bytes);
      size = size;
    } in
    ap₂ make is (omega (arith, length-append bytes (byte ∷ [])))

pub bare-more : (p : Partial) (bytes : List ℕ) (byte : ℕ) → IsBare p bytes
    → (bytes ≡ [] → step default_config p.state byte ≡ step default_config st.StartField byte)
    → ends_field byte ≡ false → (bytes ≡ [] → byte ≢ 34)
    → IsBare p (bytes ++ byte ∷ [])
bare-more p bytes byte bare first plain unquoted =
    let is = acts p bytes byte first plain unquoted in
    let on : is_end (action_at (within p bytes) byte) ≡ false = ap (λ (does : State × Action). is_end does.1) is in
    record {
      none = bare.none;
      goes = subst (DraftGoesOn p (bytes ++ byte ∷ [])) (joined p bytes byte bare.none is)
          (goes-more p (within p bytes) bytes byte bare.goes on);
    }

-- ---- the byte after a field

-- what it does, if this is what it does in any field
acts-behind : (p : Partial) (bytes : List ℕ) (byte : ℕ) (does : State × Action)
    → (bytes ≡ [] → step default_config p.state byte ≡ step default_config st.StartField byte)
    → step default_config st.StartField byte ≡ does → step default_config st.InField byte ≡ does
    → step default_config (within p bytes).state byte ≡ does
acts-behind p [] byte does first start inside = first refl ∙ start
acts-behind p (b ∷ bytes) byte does first start inside = inside

-- a record after a whole field and its comma
abbrev pub behind_comma : Partial → List ℕ → Partial
behind_comma p bytes = record {
  state = st.StartField;
  fields = p.fields ++ (bytes ∷ []);
  field = [];
  size = p.size + length bytes + 1;
}

-- a comma
bare-comma : (p : Partial) (bytes : List ℕ) → IsBare p bytes
    → (bytes ≡ [] → step default_config p.state 44 ≡ step default_config st.StartField 44)
    → DraftGoesOn p (bytes ++ 44 ∷ []) (behind_comma p bytes)
bare-comma p bytes bare first =
    let q = within p bytes in
    let is = acts-behind p bytes 44 (st.StartField, act.EndField) first refl refl in
    let on : is_end (action_at q 44) ≡ false = ap (λ (does : State × Action). is_end does.1) is in
    let make : State × Action → List (List ℕ) → List ℕ → ℕ → Partial = λ does fields field size. record {
      state = does.0;
      fields = fields_after does.1 fields field;
      field = field_after does.1 44 field;
      size = size + 1;
    } in
    let same : text_behind q 44 ≡ behind_comma p bytes =
    ap (λ does. make does q.fields q.field q.size) is
    ∙ ap (λ fields. make (st.StartField, act.EndField) fields q.field q.size) (fields-within p bytes)
    ∙ ap₂ (make (st.StartField, act.EndField) p.fields) (field-within p bytes bare.none) (size-within p bytes) in
    subst (DraftGoesOn p (bytes ++ 44 ∷ [])) same (goes-more p q bytes 44 bare.goes on)

-- a byte that ends no field is no line feed
pub no-feed : (byte : ℕ) → ends_field byte ≡ false → byte ≢ 10
no-feed byte plain is = false≢true (sym (rw is at plain))

-- a byte that ends a line
line-end : (byte : ℕ) → ends_field byte ≡ true → byte ≢ 44 → is_line_end byte ≡ true
line-end byte ends other = rw (ne_eqb byte 44 other) at ends

unquoted-end : (byte : ℕ) → is_line_end byte ≡ true → byte ≢ 34
unquoted-end byte ends is = false≢true (rw is at ends)

bare-end : (p : Partial) (bytes : List ℕ) (byte : ℕ) → IsBare p bytes
    → (bytes ≡ [] → step default_config p.state byte ≡ step default_config st.StartField byte)
    → is_line_end byte ≡ true → byte ≢ 44
    → EndsWith p (bytes ++ byte ∷ []) (p.fields ++ (bytes ∷ [])) (p.size + length bytes)
bare-end p bytes byte bare first ends other =
    let q = within p bytes in
    let inside : (step default_config st.InField byte).1 ≡ act.EndRecord =
    rw (ne_eqb byte 44 other, ends) refl in
    let start : step default_config st.StartField byte ≡ step default_config st.InField byte =
    rw (ne_eqb byte 34 (unquoted-end byte ends)) refl in
    let end : action_at q byte ≡ act.EndRecord =
    ap (λ (does : State × Action). does.1)
    (acts-behind p bytes byte (step default_config st.InField byte) first start refl)
    ∙ inside in
    rw (fields-within p bytes, field-within p bytes bare.none, size-within p bytes) at
    (ends-more p q bytes byte bare.goes end)

-- ---- the fields of a text

-- a record after so many bytes, which are whole fields and their commas
abbrev pub behind_fields : Partial → List (List ℕ) → ℕ → Partial
behind_fields p fields count = record {
  state = if count == 0 then p.state else st.StartField;
  fields = fields;
  field = [];
  size = p.size + count;
}

pub begins-behind : (state : State) (i byte : ℕ)
    → begins_field (if i + 1 == 0 then state else st.StartField) byte ≡ true
begins-behind state i byte = rw (ne_eqb (i + 1) 0 (omega arith)) refl

pub part-none : (text : List ℕ) (i : ℕ) → slice_range text i i ≡ []
part-none text i = let none : i - i ≡ 0 = omega arith in rw none refl

pub part-length : (text : List ℕ) (start i : ℕ) → start ≤ i → i < length text
    → length (slice_range text start i) ≡ i - start
part-length text start i low inside =
    omega (arith, length-take (i - start) (drop start text), length-drop start text)

-- where no byte of the field is at hand yet, this is its first
first-place : (text : List ℕ) (start i : ℕ) → start ≤ i → i < length text → slice_range text start i ≡ []
    → i ≡ start
first-place text start i low inside none =
    let size = part-length text start i low inside in
    let zero = ap (λ (xs : List ℕ). length xs) none in
    omega (arith, size, zero)

first-acts : (p : Partial) (text : List ℕ) (start i : ℕ) → start ≤ i → i < length text
    → begins_field p.state (get_or text start 0) ≡ true → slice_range text start i ≡ []
    → step default_config p.state (get_or text i 0) ≡ step default_config st.StartField (get_or text i 0)
first-acts p text start i low inside begins none =
    rw (first-place text start i low inside none) (starts-field p.state (get_or text start 0) begins)

-- one byte more of a field
part-more : (text : List ℕ) (start i : ℕ) → start ≤ i → i < length text
    → slice_range text start (i + 1) ≡ slice_range text start i ++ get_or text i 0 ∷ []
part-more text start i low inside =
    let more : i + 1 - start ≡ (i - start) + 1 = omega arith in
    let within : i - start < length (drop start text) = omega (arith, length-drop start text) in
    let place : start + (i - start) ≡ i = omega arith in
    ap (λ (n : ℕ). take n (drop start text)) more
    ∙ take_more (drop start text) (i - start) 0 within
    ∙ ap (λ (byte : ℕ). slice_range text start i ++ byte ∷ [])
    (get_or-drop start text (i - start) 0 ∙ ap (λ (k : ℕ). get_or text k 0) place)

pub text-more : (p : Partial) (text : List ℕ) (start i : ℕ) → start ≤ i → i < length text
    → begins_field p.state (get_or text start 0) ≡ true → IsBare p (slice_range text start i)
    → ends_field (get_or text i 0) ≡ false → (i ≡ start → get_or text i 0 ≢ 34)
    → IsBare p (slice_range text start (i + 1))
text-more p text start i low inside begins bare plain unquoted =
    subst (IsBare p) (sym (part-more text start i low inside))
    (bare-more p (slice_range text start i) (get_or text i 0) bare (first-acts p text start i low inside begins) plain
    (λ none. unquoted (first-place text start i low inside none)))

-- a byte of the text after a place, by its place in the text
byte-behind : (text : List ℕ) (start k : ℕ) → start ≤ length text
    → get_or (slice_range text start (length text)) k 0 ≡ get_or text (start + k) 0
byte-behind text start k inside =
    ap (λ (xs : List ℕ). get_or xs k 0) (part-behind text start inside) ∙ get_or-drop start text k 0

pub plain-at : (text : List ℕ) (start count : ℕ) → start ≤ length text
    → ((k : ℕ) → k < count → ends_field (get_or (slice_range text start (length text)) k 0) ≡ false)
    → (k : ℕ) → k < count → ends_field (get_or text (start + k) 0) ≡ false
plain-at text start count inside plain k below =
    sym (ap ends_field (byte-behind text start k inside)) ∙ plain k below

pub ends-at : (text : List ℕ) (start count : ℕ) → start ≤ length text → start + count < length text
    → (count < length (slice_range text start (length text))
    → ends_field (get_or (slice_range text start (length text)) count 0) ≡ true)
    → ends_field (get_or text (start + count) 0) ≡ true
ends-at text start count inside within ends =
    let size = ap (λ (xs : List ℕ). length xs) (part-behind text start inside) ∙ length-drop start text in
    sym (ap ends_field (byte-behind text start count inside)) ∙ ends (omega (arith, size, within))

-- all bytes of a field
pub text-bare : (p : Partial) (text : List ℕ) (start count : ℕ) → start + count ≤ length text → p.field ≡ []
    → begins_field p.state (get_or text start 0) ≡ true → get_or text start 0 ≢ 34
    → ((k : ℕ) → k < count → ends_field (get_or text (start + k) 0) ≡ false)
    → IsBare p (slice_range text start (start + count))
text-bare p text start zero inside none begins unquoted plain =
    let place : start + 0 ≡ start = omega arith in
    subst (IsBare p) (sym (ap (slice_range text start) place ∙ part-none text start)) (bare-none p none)
text-bare p text start (suc k) inside none begins unquoted plain =
    let low : start ≤ start + k = omega arith in
    let within : start + k < length text = omega (arith, inside) in
    let place : start + suc k ≡ start + k + 1 = omega arith in
    let so_far = text-bare p text start k (omega (arith, inside)) none begins unquoted
    (λ j below. plain j (omega (arith, below))) in
    subst (IsBare p) (sym (ap (slice_range text start) place))
    (text-more p text start (start + k) low within begins so_far (plain k (omega arith))
    (λ here. rw here unquoted))

-- no line feed is among them
pub text-feeds : (text : List ℕ) (start count : ℕ) → start + count ≤ length text → line_feeds (take start text) ≡ 0
    → ((k : ℕ) → k < count → ends_field (get_or text (start + k) 0) ≡ false)
    → line_feeds (take (start + count) text) ≡ 0
text-feeds text start zero inside none plain =
    let place : start + 0 ≡ start = omega arith in
    ap (λ (n : ℕ). line_feeds (take n text)) place ∙ none
text-feeds text start (suc k) inside none plain =
    let place : start + suc k ≡ start + k + 1 = omega arith in
    ap (λ (n : ℕ). line_feeds (take n text)) place
    ∙ feeds-no text (start + k) (omega (arith, inside)) (no-feed (get_or text (start + k) 0) (plain k (omega arith)))
    ∙ text-feeds text start k (omega (arith, inside)) none (λ j below. plain j (omega (arith, below)))

-- the bytes before a field, those of the field, and the one after it
parts : (text : List ℕ) (start i : ℕ) → start ≤ i → i < length text
    → take (i + 1) text ≡ take start text ++ (slice_range text start i ++ get_or text i 0 ∷ [])
parts text start i low inside =
    take_more text i 0 inside
    ∙ ap (λ (xs : List ℕ). xs ++ get_or text i 0 ∷ [])
    (ap (λ (n : ℕ). take n text) (omega arith) ∙ take-add start (i - start) text)
    ∙ append_assoc (take start text) (slice_range text start i) (get_or text i 0 ∷ [])

-- a whole field, and the comma after it
pub text-comma : (o : Partial) (fields : List (List ℕ)) (text : List ℕ) (start i : ℕ) → start ≤ i → i < length text
    → begins_field (behind_fields o fields start).state (get_or text start 0) ≡ true
    → IsBare (behind_fields o fields start) (slice_range text start i)
    → DraftGoesOn o (take start text) (behind_fields o fields start) → get_or text i 0 ≡ 44
    → DraftGoesOn o (take (i + 1) text) (behind_fields o (fields ++ (slice_range text start i ∷ [])) (i + 1))
text-comma o fields text start i low inside begins bare so_far comma =
    let p = behind_fields o fields start in
    let hand = slice_range text start i in
    let first : hand ≡ [] → step default_config p.state 44 ≡ step default_config st.StartField 44 =
    λ none. rw comma at (first-acts p text start i low inside begins none) in
    let front : take start text ++ (hand ++ 44 ∷ []) ≡ take (i + 1) text =
    sym (parts text start i low inside ∙ ap (λ byte. take start text ++ (hand ++ byte ∷ [])) comma) in
    let some : (i + 1 == 0) ≡ false = ne_eqb (i + 1) 0 (omega arith) in
    let count = part-length text start i low inside in
    let size : (o.size + start) + length hand + 1 ≡ o.size + (i + 1) = omega (arith, count, low) in
    let make : Bool → ℕ → Partial = λ none size. record {
      state = if none then o.state else st.StartField;
      fields = fields ++ (hand ∷ []);
      field = [];
      size = size;
    } in
    let same : behind_comma p hand ≡ behind_fields o (fields ++ (hand ∷ [])) (i + 1) = ap₂ make (sym some) size in
    subst (λ (q : Partial). DraftGoesOn o (take (i + 1) text) q) same
    (subst (λ (xs : List ℕ). DraftGoesOn o xs (behind_comma p hand)) front
    (goes-trans o p (behind_comma p hand) (take start text) (hand ++ 44 ∷ []) so_far (bare-comma p hand bare first)))

-- a whole field, and the end of a line after it
pub text-end : (o p : Partial) (text : List ℕ) (start i : ℕ) → start ≤ i → i < length text
    → begins_field p.state (get_or text start 0) ≡ true → IsBare p (slice_range text start i)
    → DraftGoesOn o (take start text) p → ends_field (get_or text i 0) ≡ true → get_or text i 0 ≢ 44
    → EndsWith o (take (i + 1) text) (p.fields ++ (slice_range text start i ∷ []))
    (p.size + length (slice_range text start i))
text-end o p text start i low inside begins bare so_far ends other =
    let hand = slice_range text start i in
    let byte = get_or text i 0 in
    let size = p.size + length hand in
    subst (λ (xs : List ℕ). EndsWith o xs (p.fields ++ (hand ∷ [])) size) (sym (parts text start i low inside))
    (ends-behind o p (take start text) (hand ++ byte ∷ []) (p.fields ++ (hand ∷ [])) size so_far
    (bare-end p hand byte bare (first-acts p text start i low inside begins) (line-end byte ends other) other))
