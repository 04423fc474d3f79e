-- The first column of a line.
use Rattle.std.proofs.Common.{◌≡◌, ◌∙◌, ℕ, ◌+◌, ◌-◌, ◌*◌, ◌^◌, ◌<◌, ◌≤◌, ◌==◌, Bool, true, false, ◌&&◌, if◌then◌else◌, List, [], ◌∷◌, ◌++◌, length, get_or, take, drop, ◌/◌, ◌%◌, ◌⊎◌, inl, inr, None, get_or-take, Result, Ok, Err, refl, sym, ap, arith, take-append-drop, nat_le, nat_lt}
use Rattle.std.proofs.lemmas.Bool.{and_from, cases_lt, eq-eqb, eqb-true, le-leb, lt-ltb, false≢true}
use Rattle.std.proofs.lemmas.Bool.Decides.{nat_tests}
use Rattle.std.proofs.lemmas.Int.Digits.{digits_value_more}
use Rattle.std.proofs.lemmas.List.{drop_more, length-take-le}
use Rattle.std.proofs.lemmas.List.Folds.{list_all_at, list_all_more}
use Rattle.std.proofs.lemmas.List.Splits.{slice_split-cons_no, slice_split_at}
use Rattle.std.specs.Char.{digit_value, is_digit}
use Rattle.std.specs.List.{All, list_all, onto_first}
use Rattle.std.specs.Str.Parse.{digits_value}
use Rattle.tl_text.specs.Number.{are_digits}
use Rattle.check_rows.proofs.ColumnLemmas.{parts-cut}
use Rattle.check_rows.proofs.Digits.{lane-none}
use Rattle.check_rows.proofs.Numbers.{hex_of-digits}
use Rattle.check_rows.proofs.Shown.{lane-here, shown_by-none}
use Rattle.check_rows.specs.Digit.{digit_code}
use Rattle.check_rows.specs.Lanes.{SeenLanes, lane_of_digits, lanes_of, shown_by}
use Rattle.check_rows.specs.declared.fault.RowFault.TheVariants.{Number}
use Rattle.check_beats.specs.declared.bus.Bus.{Bus}
use Rattle.check_watch.specs.declared.beat.Link.TheVariants.{Master, Port}
use Rattle.check_rows.specs.Columns.{channel_of, flag_of, flag_or, index_of, link_of, nothing_of}
use Rattle.check_rows.specs.Number.{address_of, decimal_of, decimal_or_zero, hex_of, mask_digits, mask_of}
use Rattle.check_rows.specs.declared.columns.RowChannel.TheVariants as channel
use Rattle.check_rows.specs.declared.fault.RowFault.{RowFault}
use Rattle.check_rows.specs.Column.{column_parts}
use Rattle.check_rows.specs.Front.{BeginsWithNumber, FirstIsNumber, FirstSpells, LastSpell}
use Rattle.check_rows.specs.Row.{SeenBeat, ask_of_words, asks_for_mark, beat_of, reply_of_words, row_or_reset, row_of}
use Rattle.check_rows.specs.Buses.{bus_of_link}
use Rattle.check_rows.specs.declared.columns.RowChannel.{RowChannel}
use Rattle.check_watch.specs.Plan.{seen_at}
use Rattle.check_watch.specs.declared.beat.Link.{Link}
use Rattle.check_beats.specs.Bus.{bus_bytes}
use Rattle.csv.specs.Records.{field_at}
use Rattle.check_watch.specs.declared.beat.Beat.TheVariants as beat

Ok≢Err : {A : Type 0} (x : A) (fault : RowFault) → Ok x ≡ Err fault → ⊥
Ok≢Err x fault is = grind (arith)

-- ---- decimal digits

pub decimal_digit : (c : ℕ) → 48 ≤ c → c ≤ 57 → digit_value c ≡ c - 48
decimal_digit c low high = grind (arith, nat_tests)

pub begins-none : (radix : ℕ) (text : List ℕ) → BeginsWithNumber radix text 0 0
begins-none radix text = record { inside = omega arith; digits = refl; value = refl }

-- one digit more
pub begins-more : (radix : ℕ) (text : List ℕ) (number count digit next : ℕ) → count < length text
    → is_digit (get_or text count 0) radix ≡ true → digit ≡ digit_value (get_or text count 0)
    → next ≡ number * radix + digit → BeginsWithNumber radix text number count → BeginsWithNumber radix text next (count + 1)
begins-more radix text number count digit next within is same more h = record {
  inside = omega (arith, within);
  digits = list_all_more (λ (c : ℕ). is_digit c radix) text count 0 within
      ∙ and_from (list_all (λ c. is_digit c radix) (take count text)) (is_digit (get_or text count 0) radix) h.digits is;
  value = more ∙ ap (λ (n : ℕ). n * radix + digit) h.value
      ∙ ap (λ (n : ℕ). digits_value radix (take count text) * radix + n) same ∙ sym (digits_value_more radix text count within);
}

-- ---- a column of digits

no-comma : (radix c : ℕ) → is_digit 44 radix ≡ false → is_digit c radix ≡ true → (c == 44) ≡ false
no-comma radix c none is = go (c == 44) refl
  where
    go : (same : Bool) → (c == 44) ≡ same → same ≡ false
    go false here = refl
    go true here = absurd (false≢true (sym none ∙ ap (λ (n : ℕ). is_digit n radix) (sym (eqb-true c 44 here)) ∙ is))

none-comma : (radix : ℕ) (word : List ℕ) → is_digit 44 radix ≡ false → list_all (λ c. is_digit c radix) word ≡ true
    → All (λ c. (c == 44) ≡ false) word
none-comma radix word none all = λ k d below. no-comma radix (get_or word k d) none (here k d below (is_digit (get_or word k d) radix) refl)
  where
    here : (k d : ℕ) → k < length word → (is : Bool) → is_digit (get_or word k d) radix ≡ is → is ≡ true
    here k d below true e = refl
    here k d below false e = absurd (false≢true (sym (list_all_at (λ (c : ℕ). is_digit c radix) word k d below e) ∙ all))

-- digits and a comma are a column
parts-of-digits : (radix : ℕ) (text : List ℕ) (number count : ℕ) → is_digit 44 radix ≡ false → count < length text
    → get_or text count 0 ≡ 44 → BeginsWithNumber radix text number count
    → column_parts text ≡ take count text ∷ column_parts (drop (count + 1) text)
parts-of-digits radix text number count none inside comma h =
    ap column_parts (sym (take-append-drop count text)
    ∙ ap (λ (rest : List ℕ). take count text ++ rest) (drop_more text count 0 inside))
    ∙ slice_split_at (λ (byte : ℕ). byte == 44) (take count text) (get_or text count 0) (drop (count + 1) text)
    (none-comma radix (take count text) none h.digits) (rw comma refl)

some-digits : (radix : ℕ) (text : List ℕ) (number count : ℕ) → 0 < count → BeginsWithNumber radix text number count
    → are_digits radix (take count text) ≡ true
some-digits radix text number count some h =
    let size = length-take-le count text h.inside in
    rw (lt-ltb 0 (length (take count text)) (omega (arith, size, some)), h.digits) refl

pub first-number : (text : List ℕ) (number count : ℕ) → 0 < count → count < length text → get_or text count 0 ≡ 44
    → BeginsWithNumber 10 text number count → FirstIsNumber text number (drop (count + 1) text)
first-number text number count some inside comma h = record {
  word = take count text;
  parts = parts-of-digits 10 text number count refl inside comma h;
  digits = some-digits 10 text number count some h;
  value = h.value;
}

-- ---- what the digits spell

pub decimal_of-small : (most : ℕ) (word : List ℕ) (number : ℕ) → are_digits 10 word ≡ true
    → number ≡ digits_value 10 word → number ≤ most → most < 2 ^ 64 → decimal_of most word ≡ Ok number
unfolding decimal_of
decimal_of-small most word number digits value small room =
    let below = rw value at small in
    let in_room : (nat_lt (digits_value 10 word) (2 ^ 64)) ≡ true = lt-ltb (digits_value 10 word) (2 ^ 64) (omega (arith, below, room)) in
    let in_most : (nat_le (digits_value 10 word) most) ≡ true = le-leb (digits_value 10 word) most (omega (arith, below)) in
    rw (digits, in_room, in_most) (ap Ok (sym value))

pub spells-decimal : (most : ℕ) (text : List ℕ) (number : ℕ) (rest : List ℕ) → number ≤ most → most < 2 ^ 64
    → FirstIsNumber text number rest → FirstSpells (decimal_of most) text number rest
spells-decimal most text number rest small room h = record {
  word = h.word;
  parts = h.parts;
  spells = decimal_of-small most h.word number h.digits h.value small room;
}

pub spells-address : (text : List ℕ) (number count : ℕ) → 0 < count → count ≤ 16 → count < length text
    → get_or text count 0 ≡ 44 → BeginsWithNumber 16 text number count
    → FirstSpells address_of text number (drop (count + 1) text)
unfolding address_of
spells-address text number count some few inside comma h =
    let size = length-take-le count text h.inside in
    let short : nat_le (length (take count text)) 16 ≡ true = le-leb (length (take count text)) 16 (omega (arith, size, few)) in
    record {
      word = take count text;
      parts = parts-of-digits 16 text number count refl inside comma h;
      spells = rw short (hex_of-digits (take count text) (omega (arith, size, some)) h.digits ∙ ap Ok (sym h.value));
    }

pub spells-mask : (bus : ℕ) (text : List ℕ) (number count : ℕ) → count ≡ mask_digits bus → number < 2 ^ bus
    → count < length text → get_or text count 0 ≡ 44 → BeginsWithNumber 16 text number count
    → FirstSpells (mask_of bus) text number (drop (count + 1) text)
unfolding mask_of
spells-mask bus text number count whole small inside comma h =
    let word = take count text in
    let size = length-take-le count text h.inside in
    let long : (length word == mask_digits bus) ≡ true = eq-eqb (length word) (mask_digits bus) (size ∙ whole) in
    let value : hex_of word ≡ Ok number =
    hex_of-digits word (omega (arith, size, whole)) h.digits ∙ ap Ok (sym h.value) in
    let below : nat_lt number (2 ^ bus) ≡ true = lt-ltb number (2 ^ bus) small in
    record {
      word = word;
      parts = parts-of-digits 16 text number count refl inside comma h;
      spells = rw (long, value, below) refl;
    }

-- ---- links

pub spells-index : (count : ℕ) (text : List ℕ) (number : ℕ) (rest : List ℕ) → number < count
    → FirstIsNumber text number rest → FirstSpells (index_of count) text number rest
unfolding index_of
spells-index count text number rest small h =
    let below : nat_lt (digits_value 10 h.word) count ≡ true =
    lt-ltb (digits_value 10 h.word) count (rw h.value at small) in
    record {
      word = h.word;
      parts = h.parts;
      spells = rw (h.digits, below) (ap Ok (sym h.value));
    }

-- a byte that is no comma stands before the first column
one_more : (byte : ℕ) (text word : List ℕ) (rest : List (List ℕ)) → (byte == 44) ≡ false → column_parts text ≡ word ∷ rest
    → column_parts (byte ∷ text) ≡ (byte ∷ word) ∷ rest
one_more byte text word rest plain is =
    slice_split-cons_no (λ (c : ℕ). c == 44) byte text plain ∙ ap (onto_first byte) is

pub spells-master : (masters ports : List Bus) (text : List ℕ) (number : ℕ) (rest : List ℕ)
    → FirstSpells (index_of (length masters)) text number rest
    → FirstSpells (link_of masters ports) (109 ∷ text) (Master number) rest
unfolding link_of
spells-master masters ports text number rest h = record {
  word = 109 ∷ h.word;
  parts = one_more 109 text h.word (column_parts rest) refl h.parts;
  spells = rw h.spells refl;
}

pub spells-port : (masters ports : List Bus) (text : List ℕ) (number : ℕ) (rest : List ℕ)
    → FirstSpells (index_of (length ports)) text number rest
    → FirstSpells (link_of masters ports) (112 ∷ text) (Port number) rest
unfolding link_of
spells-port masters ports text number rest h = record {
  word = 112 ∷ h.word;
  parts = one_more 112 text h.word (column_parts rest) refl h.parts;
  spells = rw h.spells refl;
}

-- ---- columns of one byte

pub one_byte : {A : Type 0} (read : List ℕ → Result A RowFault) (byte : ℕ) (value : A) (rest : List ℕ)
    → (byte == 44) ≡ false → read (byte ∷ []) ≡ Ok value → FirstSpells read (byte ∷ 44 ∷ rest) value rest
one_byte read byte value rest plain is = record {
  word = byte ∷ [];
  parts = one_more byte (44 ∷ rest) [] (column_parts rest) plain refl;
  spells = is;
}

pub one-channel-a : (rest : List ℕ) → FirstSpells channel_of (65 ∷ 44 ∷ rest) channel.A rest
unfolding channel_of
one-channel-a rest = one_byte channel_of 65 channel.A rest refl refl

pub one-channel-d : (rest : List ℕ) → FirstSpells channel_of (68 ∷ 44 ∷ rest) channel.D rest
unfolding channel_of
one-channel-d rest = one_byte channel_of 68 channel.D rest refl refl

pub one-flag-unset : (rest : List ℕ) → FirstSpells flag_of (48 ∷ 44 ∷ rest) false rest
unfolding flag_of
one-flag-unset rest = one_byte flag_of 48 false rest refl refl

pub one-flag-set : (rest : List ℕ) → FirstSpells flag_of (49 ∷ 44 ∷ rest) true rest
unfolding flag_of
one-flag-set rest = one_byte flag_of 49 true rest refl refl

and-no : (b : Bool) → (b && false) ≡ false
and-no true = refl
and-no false = refl

-- a flag has no comma
pub flag-plain : (text : List ℕ) (flag : Bool) → flag_of text ≡ Ok flag → column_parts text ≡ text ∷ []
unfolding flag_of
flag-plain [] flag is = absurd (Ok≢Err flag Number (sym is))
flag-plain (byte ∷ []) flag is = go (byte == 44) refl
  where
    go : (same : Bool) → (byte == 44) ≡ same → column_parts (byte ∷ []) ≡ (byte ∷ []) ∷ []
    go false here = slice_split-cons_no (λ (c : ℕ). c == 44) byte [] here
    go true here =
        let fault : flag_of (byte ∷ []) ≡ Err Number = rw (eqb-true byte 44 here) refl in
        absurd (Ok≢Err flag Number (sym is ∙ fault))
flag-plain (first ∷ second ∷ more) flag is =
    let fault : flag_of (first ∷ second ∷ more) ≡ Err Number = rw (and-no (first == 48), and-no (first == 49)) refl in
    absurd (Ok≢Err flag Number (sym is ∙ fault))

-- ---- lanes

-- where a comma stands, no lanes are shown
no-lanes-here : (bus : ℕ) (word : List ℕ) (place : ℕ) → place < 2 * bus → get_or word place 0 ≡ 44
    → lane_of_digits (get_or word (2 * (place / 2)) 0) (get_or word (2 * (place / 2) + 1) 0) ≡ None
unfolding digit_code
no-lanes-here bus word place within comma =
    elim (cases_lt (place % 2) 1) [
      | inl even ↦ let here : place ≡ 2 * (place / 2) = omega (arith, even) in
          let is : get_or word (2 * (place / 2)) 0 ≡ 44 = ap (λ (n : ℕ). get_or word n 0) (sym here) ∙ comma in
          let code : digit_code (get_or word (2 * (place / 2)) 0) ≡ 17 = ap digit_code is in
          lane-none (get_or word (2 * (place / 2)) 0) (get_or word (2 * (place / 2) + 1) 0) (omega (arith, code))
      | inr odd ↦ let here : place ≡ 2 * (place / 2) + 1 = omega (arith, odd) in
          let is : get_or word (2 * (place / 2) + 1) 0 ≡ 44 = ap (λ (n : ℕ). get_or word n 0) (sym here) ∙ comma in
          let code : digit_code (get_or word (2 * (place / 2) + 1) 0) ≡ 17 = ap digit_code is in
          lane-none (get_or word (2 * (place / 2)) 0) (get_or word (2 * (place / 2) + 1) 0) (omega (arith, code))
    ]

no-lanes : (bus : ℕ) (word : List ℕ) (place : ℕ) → place < 2 * bus → get_or word place 0 ≡ 44
    → shown_by bus word ≡ None
no-lanes bus word place within comma =
    shown_by-none bus word (bus - 1 - place / 2) (omega (arith, within))
    (lane-here bus word (place / 2) (omega (arith, within)) ∙ no-lanes-here bus word place within comma)

fault-of-none : (bus : ℕ) (word : List ℕ) → 0 < length word → length word ≡ 2 * bus → shown_by bus word ≡ None
    → lanes_of bus word ≡ Err Number
unfolding lanes_of
fault-of-none bus word some whole none =
    let other : (length word == 0) ≡ false = grind (arith, nat_tests) in
    let same : (length word == 2 * bus) ≡ true = eq-eqb (length word) (2 * bus) whole in
    rw (other, same, none) refl

-- lanes that are read have no comma
plain-lanes : (bus : ℕ) (word : List ℕ) (lanes : SeenLanes) → lanes_of bus word ≡ Ok lanes
    → length word ≡ 2 * bus → (place : ℕ) → place < length word → (get_or word place 0 == 44) ≡ false
plain-lanes bus word lanes is whole place within = go (get_or word place 0 == 44) refl
  where
    go : (same : Bool) → (get_or word place 0 == 44) ≡ same → same ≡ false
    go false here = refl
    go true here =
        let comma = eqb-true (get_or word place 0) 44 here in
        let none = no-lanes bus word place (omega (arith, within, whole)) comma in
        absurd (Ok≢Err lanes Number (sym is ∙ fault-of-none bus word (omega (arith, within)) whole none))

pub spells-lanes : (bus : ℕ) (text : List ℕ) (lanes : SeenLanes) (count : ℕ) → (count ≡ 0) ⊎ (count ≡ 2 * bus)
    → count < length text → get_or text count 0 ≡ 44 → Ok lanes ≡ lanes_of bus (take count text)
    → FirstSpells (lanes_of bus) text lanes (drop (count + 1) text)
spells-lanes bus text lanes count size inside comma is = record {
  word = take count text;
  parts = parts-cut text count inside plain (rw comma refl);
  spells = sym is;
}
  where
    long : length (take count text) ≡ count
    long = length-take-le count text (omega (arith, inside))

    plain : (place : ℕ) → place < count → (get_or text place 0 == 44) ≡ false
    plain place within =
        elim size [
          | inl none ↦ absurd (omega (arith, none, within))
          | inr whole ↦ ap (λ (c : ℕ). c == 44) (sym (get_or-take count text place 0 within))
              ∙ plain-lanes bus (take count text) lanes (sym is) (long ∙ whole) place (omega (arith, long, within))
        ]

-- ---- columns that may be empty

-- a flag that stands there is the flag
pub flag-given : (absent : Bool) (text : List ℕ) (flag : Bool) → flag_of text ≡ Ok flag → flag_or absent text ≡ Ok flag
unfolding flag_of flag_or
flag-given absent [] flag is = absurd (Ok≢Err flag Number (sym is))
flag-given absent (byte ∷ text) flag is =
    let some : (length (byte ∷ text) == 0) ≡ false = grind (arith, nat_tests) in rw some is

-- an empty column is the flag that is handed in
pub no-flag : (absent : Bool) → flag_or absent [] ≡ Ok absent
unfolding flag_or
no-flag absent = refl

-- an empty text is one column
pub empty-last : (absent : Bool) (text : List ℕ) → (length text == 0) ≡ true → flag_or absent text ≡ Ok absent
unfolding flag_or
empty-last absent [] is = refl
empty-last absent (byte ∷ text) is = let none = eqb-true (length (byte ∷ text)) 0 is in absurd (omega (arith, none))

pub empty-alone : (text : List ℕ) → (length text == 0) ≡ true → column_parts text ≡ text ∷ []
empty-alone [] is = refl
empty-alone (byte ∷ text) is = let none = eqb-true (length (byte ∷ text)) 0 is in absurd (omega (arith, none))

-- marks of one digit
pub no_mark : decimal_or_zero 1 [] ≡ Ok 0
unfolding decimal_or_zero
no_mark = refl

pub unset_mark : decimal_or_zero 1 (48 ∷ []) ≡ Ok 0
unfolding decimal_or_zero decimal_of
unset_mark = refl

pub set_mark : decimal_or_zero 1 (49 ∷ []) ≡ Ok 1
unfolding decimal_or_zero decimal_of
set_mark = refl

-- a flag is the number that it spells
pub mark-given : (text : List ℕ) (flag : Bool) → flag_of text ≡ Ok flag
    → decimal_or_zero 1 text ≡ Ok (if flag then 1 else 0)
unfolding flag_of
mark-given [] flag is = absurd (Ok≢Err flag Number (sym is))
mark-given (byte ∷ []) flag is = zero (byte == 48) refl
  where
    same : (other : Bool) → flag_of (byte ∷ []) ≡ Ok other → flag ≡ other
    same other given = cc

    one : (t : Bool) → (byte == 49) ≡ t → (byte == 48) ≡ false
        → decimal_or_zero 1 (byte ∷ []) ≡ Ok (if flag then 1 else 0)
    one true here other =
        let at : byte ≡ 49 = eqb-true byte 49 here in
        let set : flag ≡ true = same true (rw at refl) in rw (set, at) set_mark
    one false here other =
        let fault : flag_of (byte ∷ []) ≡ Err Number = rw (other, here) refl in absurd (Ok≢Err flag Number (sym is ∙ fault))

    zero : (t : Bool) → (byte == 48) ≡ t → decimal_or_zero 1 (byte ∷ []) ≡ Ok (if flag then 1 else 0)
    zero true here =
        let at : byte ≡ 48 = eqb-true byte 48 here in
        let unset : flag ≡ false = same false (rw at refl) in rw (unset, at) unset_mark
    zero false here = one (byte == 49) refl here
mark-given (first ∷ second ∷ more) flag is =
    let fault : flag_of (first ∷ second ∷ more) ≡ Err Number = rw (and-no (first == 48), and-no (first == 49)) refl in
    absurd (Ok≢Err flag Number (sym is ∙ fault))

-- an empty last column is 0
pub mark-absent : (text : List ℕ) → (length text == 0) ≡ true → decimal_or_zero 1 text ≡ Ok 0
mark-absent [] is = no_mark
mark-absent (byte ∷ text) is = let none = eqb-true (length (byte ∷ text)) 0 is in absurd (omega (arith, none))

-- a number that stands there is the number
number-given : (most : ℕ) (word : List ℕ) (number : ℕ) → decimal_of most word ≡ Ok number
    → decimal_or_zero most word ≡ Ok number
unfolding decimal_of decimal_or_zero
number-given most [] number is = absurd (cc)
number-given most (byte ∷ word) number is =
    let some : (length (byte ∷ word) == 0) ≡ false = grind (arith, nat_tests) in rw some is

pub spells-given : (most : ℕ) (text : List ℕ) (number : ℕ) (rest : List ℕ) → FirstSpells (decimal_of most) text number rest
    → FirstSpells (decimal_or_zero most) text number rest
spells-given most text number rest h = record {
  word = h.word;
  parts = h.parts;
  spells = number-given most h.word number h.spells;
}

pub spells-zero : (most : ℕ) (text rest : List ℕ) → column_parts text ≡ [] ∷ column_parts rest
    → FirstSpells (decimal_or_zero most) text 0 rest
unfolding decimal_or_zero
spells-zero most text rest empty = record { word = []; parts = empty; spells = refl }

-- ---- the columns of a beat

-- seven columns that are read, an empty one, and a last one with a flag or without, are nine
pub ask-spells : (bus : ℕ) (text : List ℕ) (opcode param size source address mask : ℕ) (lanes : SeenLanes)
    (corrupt : ℕ) (t₁ t₂ t₃ t₄ t₅ t₆ t₇ t₈ : List ℕ) → FirstSpells (decimal_of 255) text opcode t₁
    → FirstSpells (decimal_of 255) t₁ param t₂ → FirstSpells (decimal_of 255) t₂ size t₃
    → FirstSpells (decimal_of 65535) t₃ source t₄ → FirstSpells address_of t₄ address t₅
    → FirstSpells (mask_of bus) t₅ mask t₆ → FirstSpells (lanes_of bus) t₆ lanes t₇
    → column_parts t₇ ≡ [] ∷ column_parts t₈ → decimal_or_zero 1 t₈ ≡ Ok corrupt → column_parts t₈ ≡ t₈ ∷ []
    → LastSpell (ask_of_words bus) text (record {
      beat = beat.A (record {
        opcode = opcode;
        param = param;
        size = size;
        source = source;
        address = address;
        mask = mask;
        corrupt = corrupt == 1;
      });
      lanes = lanes;
    })
unfolding ask_of_words field_at nothing_of
ask-spells bus text opcode param size source address mask lanes corrupt t₁ t₂ t₃ t₄ t₅ t₆ t₇ t₈ h₁ h₂ h₃ h₄ h₅ h₆ h₇ empty flag last =
    let all : column_parts text
    ≡ h₁.word ∷ h₂.word ∷ h₃.word ∷ h₄.word ∷ h₅.word ∷ h₆.word ∷ h₇.word ∷ [] ∷ t₈ ∷ [] =
    rw (h₁.parts, h₂.parts, h₃.parts, h₄.parts, h₅.parts, h₆.parts, h₇.parts, empty, last) refl in
    record {
      nine = rw all refl;
      spells = λ time link channel.
          rw (all, h₁.spells, h₂.spells, h₃.spells, h₄.spells, h₅.spells, h₆.spells, h₇.spells, flag) refl;
    }

-- a reply has two empty columns, and two flags at the end
pub reply-spells : (bus : ℕ) (text : List ℕ) (opcode param size source : ℕ) (lanes : SeenLanes) (denied corrupt : Bool)
    (t₁ t₂ t₃ t₄ t₅ t₆ t₇ t₈ : List ℕ) → FirstSpells (decimal_of 255) text opcode t₁ → FirstSpells (decimal_or_zero 255) t₁ param t₂
    → FirstSpells (decimal_of 255) t₂ size t₃ → FirstSpells (decimal_of 65535) t₃ source t₄
    → column_parts t₄ ≡ [] ∷ column_parts t₅ → column_parts t₅ ≡ [] ∷ column_parts t₆ → FirstSpells (lanes_of bus) t₆ lanes t₇
    → FirstSpells flag_of t₇ denied t₈ → flag_or (asks_for_mark opcode denied) t₈ ≡ Ok corrupt → column_parts t₈ ≡ t₈ ∷ []
    → LastSpell (reply_of_words bus) text (record {
      beat = beat.D (record { opcode = opcode; param = param; size = size; source = source; denied = denied; corrupt = corrupt });
      lanes = lanes;
    })
unfolding reply_of_words field_at nothing_of
reply-spells bus text opcode param size source lanes denied corrupt t₁ t₂ t₃ t₄ t₅ t₆ t₇ t₈ h₁ h₆ h₂ h₃ e₂ e₃ h₄ h₅ flag last =
    let all : column_parts text ≡ h₁.word ∷ h₆.word ∷ h₂.word ∷ h₃.word ∷ [] ∷ [] ∷ h₄.word ∷ h₅.word ∷ t₈ ∷ [] =
    rw (h₁.parts, h₆.parts, h₂.parts, h₃.parts, e₂, e₃, h₄.parts, h₅.parts, last) refl in
    record {
      nine = rw all refl;
      spells = λ time link channel. rw (all, h₁.spells, h₆.spells, h₂.spells, h₃.spells, h₄.spells, h₅.spells, flag) refl;
    }

-- three columns and the nine of a beat are a row
pub row-spells : (resets : Bool) (masters ports : List Bus) (line time : ℕ) (link : Link) (channel : RowChannel) (bus : Bus)
    (seen : SeenBeat) (text t₁ t₂ t₃ : List ℕ) → FirstSpells (decimal_of (2 ^ 64 - 1)) text time t₁
    → FirstSpells (link_of masters ports) t₁ link t₂ → FirstSpells channel_of t₂ channel t₃
    → bus_bytes bus ≡ bus_of_link masters ports link → LastSpell (beat_of (bus_bytes bus) channel) t₃ seen
    → row_of resets masters ports line (column_parts text) ≡ Ok (record {
      line = line;
      time = time;
      is_reset = false;
      sighting = seen_at link seen.beat seen.lanes.known seen.lanes.bytes;
    })
unfolding row_of row_or_reset field_at
row-spells resets masters ports line time link channel bus seen text t₁ t₂ t₃ h₁ h₂ h₃ bytes h =
    let all : column_parts text ≡ h₁.word ∷ h₂.word ∷ h₃.word ∷ column_parts t₃ = rw (h₁.parts, h₂.parts, h₃.parts) refl in
    rw (all, h.nine, h₁.spells, h₂.spells, h₃.spells, ← bytes, h.spells h₁.word h₂.word h₃.word) refl
