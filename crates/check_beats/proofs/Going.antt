-- What has crossed of a request, and one beat more.
use Rattle.std.proofs.Common.{◌≡◌, ◌∙◌, ℕ, ◌+◌, ◌-◌, ◌*◌, ◌/◌, ◌^◌, ◌%◌, ◌<◌, ◌≤◌, ◌⊎◌, inl, inr, max, Bool, true, false, if◌then◌else◌, List, ◌++◌, length, replicate, Option, Some, None, ap, sym, subst, refl, arith, lit≤, eqb-true, length-append}
use Rattle.std.specs.Prelude.{All, IsSome, nat_lt}
use Rattle.std.proofs.Math.Nat.{pow-le-pow_right, div-eq_of_lt, div-mul-le_self, mul-mod_left}
use Rattle.std.proofs.lemmas.Bool.{cases_lt, eqb-false}
use Rattle.std.proofs.lemmas.Nat.{pow_pos, pow_below, mul-le, shl-shr, mul-mod_second}
use Rattle.std.proofs.lemmas.List.{length-replicate}
use Rattle.std.proofs.lemmas.List.Elements.{All-append}
use Rattle.tl_types.specs.Operation.{carries_bytes, byte_count, may_leave_unset}
use Rattle.tl_types.specs.Request.{IsLawfulRequest}
use Rattle.check_beats.specs.Bus.{low, beat_count_on_bus}
use Rattle.check_beats.specs.Form.{IsFormed, FitsAsk, SameFields}
use Rattle.check_beats.specs.Message.{op_of, given_at, shown_lanes, ask_part, ask_part_count, spoiled_ask_part, ask_beats}
use Rattle.check_beats.specs.State.{AskBegun, ask_begun, first_ask, asked_beats, asked_bytes, asked_spoiled, ends_ask, ask_after}
use Rattle.check_beats.specs.Begun.{IsAskBegun, IsAskKept}
use Rattle.check_beats.specs.declared.beat.AskHead.{AskHead}
use Rattle.check_beats.proofs.Window.{split_power, low-wide}
use Rattle.check_beats.proofs.Given.{op_named, carries_named, length-given_at, part_some}

-- a message of more beats than one fills the bus with each
pub record IsLong (w : ℕ) (carries : Bool) (size : ℕ) : Type 0 where
  pub carries_is : carries ≡ true
  pub wide : w ≤ size
  pub counted : beat_count_on_bus (2 ^ w) carries size * 2 ^ w ≡ 2 ^ size

pub long : (w size : ℕ) (carries : Bool) → 1 < beat_count_on_bus (2 ^ w) carries size → IsLong w carries size
long w size false more = absurd (omega (arith, more))
long w size true more = go (cases_lt size w)
  where
    go : (size < w) ⊎ (w ≤ size) → IsLong w true size
    go (inl narrow) =
        let none : 2 ^ size / 2 ^ w ≡ 0 = div-eq_of_lt (pow_below size w narrow) in
        absurd (omega (arith, more, none))
    go (inr wide) =
        let power : 2 ^ size ≡ 2 ^ (size - w) * 2 ^ w = split_power w (size - w) size (omega (arith, wide)) in
        let count : 2 ^ size / 2 ^ w ≡ 2 ^ (size - w) = ap (λ n. n / 2 ^ w) power ∙ shl-shr (2 ^ (size - w)) w in
        let all : max 1 (2 ^ size / 2 ^ w) ≡ 2 ^ (size - w) = omega (arith, count, pow_pos (size - w)) in
        record { carries_is = refl; wide = wide; counted = ap (λ n. n * 2 ^ w) all ∙ sym power }

-- a message has 256 beats at most
pub few : (w size : ℕ) (carries : Bool) → size ≤ 8 → beat_count_on_bus (2 ^ w) carries size ≤ 256
few w size false small = omega arith
few w size true small =
    let most : 2 ^ size ≤ 2 ^ 8 = pow-le-pow_right (lit≤ tt) small in
    let part : 2 ^ size / 2 ^ w * 2 ^ w ≤ 2 ^ size = div-mul-le_self (2 ^ size) (2 ^ w) in
    let no_less : 2 ^ size / 2 ^ w * 1 ≤ 2 ^ size / 2 ^ w * 2 ^ w =
    mul-le (2 ^ size / 2 ^ w) 1 (2 ^ size / 2 ^ w) (2 ^ w) (omega arith) (pow_pos w) in
    omega (arith, most, part, no_less)

-- what stands at all lanes of a beat, as they are looked at
abbrev pub all_shown : AskHead → List ℕ → List (Option ℕ)
all_shown beat lanes = given_at beat.mask (shown_lanes (length lanes) beat lanes) 0 (length lanes)

pub length-all_shown : (beat : AskHead) (lanes : List ℕ) → length (all_shown beat lanes) ≡ length lanes
length-all_shown beat lanes = length-given_at beat.mask (shown_lanes (length lanes) beat lanes) 0 (length lanes)

-- a mark for each of them
abbrev pub all_marks : AskHead → List ℕ → List Bool
all_marks beat lanes = replicate (length lanes) beat.corrupt

even : (beat : AskHead) (lanes : List ℕ) → length (all_marks beat lanes) ≡ length (all_shown beat lanes)
even beat lanes = length-replicate (length lanes) beat.corrupt ∙ sym (length-all_shown beat lanes)

-- a beat of a long request carries a byte at each lane
full_beat : (w : ℕ) (beat : AskHead) → IsFormed (2 ^ w) beat → IsLong w (nat_lt beat.opcode 4) beat.size
    → 2 ^ w ≡ ask_part_count (2 ^ w) beat
full_beat w beat formed is =
    let op = op_of beat.opcode beat.param in
    let named : op ≡ formed.op = op_named formed.op beat.opcode beat.param formed.code in
    let carries : carries_bytes op ≡ true = ap carries_bytes named
    ∙ sym (carries_named formed.op beat.opcode beat.param formed.code) ∙ is.carries_is in
    let bytes : byte_count op beat.size ≡ 2 ^ beat.size = ap (λ b. if b then 2 ^ beat.size else 0) carries in
    let fits : 2 ^ w ≤ 2 ^ beat.size = pow-le-pow_right (lit≤ tt) is.wide in
    omega (arith, bytes, fits)

-- it carries what stands at all lanes
pub part_of_long : (w : ℕ) (beat : AskHead) (lanes : List ℕ) → length lanes ≡ 2 ^ w → IsFormed (2 ^ w) beat
    → IsLong w (nat_lt beat.opcode 4) beat.size
    → all_shown beat lanes ≡ ask_part (2 ^ w) beat lanes
part_of_long w beat lanes wide formed is =
    let first : 0 ≡ low beat.address beat.size % 2 ^ w = sym (low-wide w beat.address beat.size is.wide) in
    let shown = shown_lanes (2 ^ w) beat lanes in
    ap (λ n. given_at beat.mask (shown_lanes n beat lanes) 0 n) wide
    ∙ ap (λ n. given_at beat.mask shown 0 n) (full_beat w beat formed is)
    ∙ ap (λ n. given_at beat.mask shown n (ask_part_count (2 ^ w) beat)) first

-- its bytes are all marked as it is
marks_of_long : (w : ℕ) (beat : AskHead) (lanes : List ℕ) → length lanes ≡ 2 ^ w → IsFormed (2 ^ w) beat
    → IsLong w (nat_lt beat.opcode 4) beat.size → all_marks beat lanes ≡ spoiled_ask_part (2 ^ w) beat
marks_of_long w beat lanes wide formed is = ap (λ n. replicate n beat.corrupt) (wide ∙ full_beat w beat formed is)

-- what is under way, field by field
pub of_first : (bus : ℕ) (first : Option AskHead) (head : AskHead) (beats : ℕ) (bytes : List (Option ℕ)) (spoiled : List Bool)
    → IsAskKept bus (ask_begun first beats bytes spoiled) → first ≡ Some head
    → IsAskBegun bus (record { first = head; beats = beats; bytes = bytes; spoiled = spoiled })
of_first bus first head beats bytes spoiled kept is =
    kept.of (record { first = head; beats = beats; bytes = bytes; spoiled = spoiled }) (ap (λ o. ask_begun o beats bytes spoiled) is)

pub few_crossed : (w : ℕ) (begun : Option AskBegun) → IsAskKept (2 ^ w) begun → asked_beats begun ≤ 256
few_crossed w None kept = omega arith
few_crossed w (Some b) kept =
    let is = kept.of b refl in
    omega (arith, is.unfinished, few w b.first.size (nat_lt b.first.opcode 4) is.formed.in_limit)

pub first_of : (first : Option AskHead) (beats : ℕ) (bytes : List (Option ℕ)) (spoiled : List Bool) → first_ask (ask_begun first beats bytes spoiled) ≡ first
first_of None beats bytes spoiled = refl
first_of (Some head) beats bytes spoiled = refl

-- a bus of eight lanes or more has whole words
pub whole_words : (w : ℕ) (lanes : List ℕ) → length lanes ≡ 2 ^ w → 8 ≤ length lanes → length lanes % 8 ≡ 0
whole_words w lanes wide eight = go (cases_lt w 3)
  where
    go : (w < 3) ⊎ (3 ≤ w) → length lanes % 8 ≡ 0
    go (inl small) = let less : 2 ^ w < 2 ^ 3 = pow_below w 3 small in absurd (omega (arith, wide, eight, less))
    go (inr large) =
        let power : 2 ^ w ≡ 2 ^ (w - 3) * 2 ^ 3 = split_power 3 (w - 3) w (omega (arith, large)) in
        ap (λ n. n % 8) (wide ∙ power) ∙ mul-mod_left (2 ^ (w - 3)) 8

-- ---- a beat after the first

-- a beat after the first of a request: it is of a long one, and there is room for it
pub record Goes (w beats : ℕ) (bytes : List (Option ℕ)) (spoiled : List Bool) (beat : AskHead) (lanes : List ℕ) : Type 0 where
  pub long_is : IsLong w (nat_lt beat.opcode 4) beat.size
  pub part : all_shown beat lanes ≡ ask_part (2 ^ w) beat lanes
  pub within : beats + 1 ≤ ask_beats (2 ^ w) beat
  pub total : length bytes + length lanes ≡ (beats + 1) * 2 ^ w
  pub room : length bytes + length lanes ≤ 256
  pub aligned : 8 ≤ length lanes → length bytes % 8 ≡ 0
  pub in_limit : beats + 1 ≤ 256
  pub whole : may_leave_unset (op_of beat.opcode beat.param) ≡ false → All (λ b. IsSome b) bytes
  pub marks : all_marks beat lanes ≡ spoiled_ask_part (2 ^ w) beat
  pub marked : length spoiled ≡ length bytes

same_op : (head beat : AskHead) → SameFields head beat → op_of beat.opcode beat.param ≡ op_of head.opcode head.param
same_op head beat same = rw (same.opcode, same.param) refl

same_beats : (bus : ℕ) (head beat : AskHead) → SameFields head beat → ask_beats bus beat ≡ ask_beats bus head
same_beats bus head beat same = rw (same.opcode, same.size) refl

pub goes : (w : ℕ) (first : Option AskHead) (beats : ℕ) (bytes : List (Option ℕ)) (spoiled : List Bool) (beat : AskHead) (lanes : List ℕ)
    → IsAskKept (2 ^ w) (ask_begun first beats bytes spoiled) → FitsAsk (2 ^ w) (first_ask (ask_begun first beats bytes spoiled)) beat
    → length lanes ≡ 2 ^ w
    → (ask_begun first beats bytes spoiled ≡ None → ⊥) → Goes w beats bytes spoiled beat lanes
goes w None beats bytes spoiled beat lanes kept fits wide some = absurd (some refl)
goes w (Some head) beats bytes spoiled beat lanes kept fits wide some =
    let is = kept.of (record { first = head; beats = beats; bytes = bytes; spoiled = spoiled }) refl in
    let same : SameFields head beat = fits.same head refl in
    let as_first = same_beats (2 ^ w) head beat same in
    let within : beats + 1 ≤ ask_beats (2 ^ w) beat = omega (arith, is.unfinished, as_first) in
    let l = long w beat.size (nat_lt beat.opcode 4) (omega (arith, is.some, within)) in
    let most : 2 ^ beat.size ≤ 2 ^ 8 = pow-le-pow_right (lit≤ tt) fits.formed.in_limit in
    let row : (beats + 1) * 2 ^ w ≤ ask_beats (2 ^ w) beat * 2 ^ w =
    mul-le (beats + 1) (2 ^ w) (ask_beats (2 ^ w) beat) (2 ^ w) within (omega arith) in
    let more : (beats + 1) * 2 ^ w ≡ beats * 2 ^ w + 2 ^ w = search arith in
    record {
      long_is = l;
      part = part_of_long w beat lanes wide fits.formed l;
      within = within;
      total = omega (arith, is.counted, wide, more);
      room = omega (arith, is.counted, wide, more, row, l.counted, most);
      aligned = λ eight.
          let words : 2 ^ w % 8 ≡ 0 = ap (λ n. n % 8) (sym wide) ∙ whole_words w lanes wide eight in
          ap (λ n. n % 8) is.counted ∙ sym (mul-mod_second beats (2 ^ w) 8) ∙ ap (λ n. (beats * n) % 8) words ∙ omega arith;
      in_limit = omega (arith, within, few w beat.size (nat_lt beat.opcode 4) fits.formed.in_limit);
      whole = λ no. is.whole (ap may_leave_unset (sym (same_op head beat same)) ∙ no);
      marks = marks_of_long w beat lanes wide fits.formed l;
      marked = is.marked;
    }

more_whole : (w beats : ℕ) (bytes : List (Option ℕ)) (spoiled : List Bool) (beat : AskHead) (lanes : List ℕ) → IsFormed (2 ^ w) beat
    → Goes w beats bytes spoiled beat lanes
    → may_leave_unset (op_of beat.opcode beat.param) ≡ false → All (λ b. IsSome b) (bytes ++ all_shown beat lanes)
more_whole w beats bytes spoiled beat lanes formed is never =
    let named : op_of beat.opcode beat.param ≡ formed.op = op_named formed.op beat.opcode beat.param formed.code in
    let part : All (λ b. IsSome b) (all_shown beat lanes) =
    rw is.part (part_some w beat lanes (formed.mask.whole (ap may_leave_unset (sym named) ∙ never))) in
    All-append (λ b. IsSome b) bytes (all_shown beat lanes) (is.whole never) part

pub more_marked : (w beats : ℕ) (bytes : List (Option ℕ)) (spoiled : List Bool) (beat : AskHead) (lanes : List ℕ)
    → Goes w beats bytes spoiled beat lanes → length (spoiled ++ all_marks beat lanes) ≡ length (bytes ++ all_shown beat lanes)
more_marked w beats bytes spoiled beat lanes is =
    omega (
      arith,
      length-append spoiled (all_marks beat lanes),
      length-append bytes (all_shown beat lanes),
      is.marked,
      even beat lanes,
    )

-- it is kept
pub kept_on : (w : ℕ) (first : Option AskHead) (beats : ℕ) (bytes : List (Option ℕ)) (spoiled : List Bool) (beat : AskHead) (lanes : List ℕ)
    → IsAskKept (2 ^ w) (ask_begun first beats bytes spoiled) → FitsAsk (2 ^ w) (first_ask (ask_begun first beats bytes spoiled)) beat
    → (ask_begun first beats bytes spoiled ≡ None → ⊥) → Goes w beats bytes spoiled beat lanes → ends_ask (2 ^ w) (ask_begun first beats bytes spoiled) beat ≡ false
    → IsAskKept (2 ^ w) (ask_begun first (beats + 1) (bytes ++ all_shown beat lanes) (spoiled ++ all_marks beat lanes))
kept_on w None beats bytes spoiled beat lanes kept fits some is goes_on = absurd (some refl)
kept_on w (Some head) beats bytes spoiled beat lanes kept fits some is goes_on =
    let was = kept.of (record { first = head; beats = beats; bytes = bytes; spoiled = spoiled }) refl in
    let same : SameFields head beat = fits.same head refl in
    let after : AskBegun = record {
      first = head;
      beats = beats + 1;
      bytes = bytes ++ all_shown beat lanes;
      spoiled = spoiled ++ all_marks beat lanes;
    } in
    let begun : IsAskBegun (2 ^ w) after = record {
      formed = was.formed;
      some = omega arith;
      unfinished = omega (arith, is.within, same_beats (2 ^ w) head beat same, eqb-false (beats + 1) (ask_beats (2 ^ w) beat) goes_on);
      counted = length-append bytes (all_shown beat lanes)
          ∙ ap (λ n. length bytes + n) (length-all_shown beat lanes) ∙ is.total;
      whole = λ no. more_whole w beats bytes spoiled beat lanes fits.formed is (ap may_leave_unset (same_op head beat same) ∙ no);
      marked = more_marked w beats bytes spoiled beat lanes is;
    } in
    record { of = λ b at. let e : after ≡ b = cc in subst (λ (x : AskBegun). IsAskBegun (2 ^ w) x) e begun }

-- it is what has crossed after the beat
pub on_is : (w : ℕ) (first : Option AskHead) (beats : ℕ) (bytes : List (Option ℕ)) (spoiled : List Bool) (beat : AskHead) (lanes : List ℕ)
    → (ask_begun first beats bytes spoiled ≡ None → ⊥) → Goes w beats bytes spoiled beat lanes → ends_ask (2 ^ w) (ask_begun first beats bytes spoiled) beat ≡ false
    → ask_begun first (beats + 1) (bytes ++ all_shown beat lanes) (spoiled ++ all_marks beat lanes)
    ≡ ask_after (2 ^ w) (ask_begun first beats bytes spoiled) beat lanes
on_is w None beats bytes spoiled beat lanes some is goes_on = absurd (some refl)
on_is w (Some head) beats bytes spoiled beat lanes some is goes_on = rw (goes_on, is.part, is.marks) refl

-- the request that it ends is lawful
pub ended_is_lawful : (w beats : ℕ) (bytes : List (Option ℕ)) (spoiled : List Bool) (beat : AskHead) (lanes : List ℕ) → IsFormed (2 ^ w) beat
    → Goes w beats bytes spoiled beat lanes
    → beats + 1 ≡ ask_beats (2 ^ w) beat
    → IsLawfulRequest (op_of beat.opcode beat.param) beat.size (bytes ++ all_shown beat lanes)
ended_is_lawful w beats bytes spoiled beat lanes formed is ends =
    let op = op_of beat.opcode beat.param in
    let carries : carries_bytes op ≡ true =
    ap carries_bytes (op_named formed.op beat.opcode beat.param formed.code)
    ∙ sym (carries_named formed.op beat.opcode beat.param formed.code) ∙ is.long_is.carries_is in
    record {
      in_limit = formed.in_limit;
      counted = length-append bytes (all_shown beat lanes)
          ∙ ap (λ n. length bytes + n) (length-all_shown beat lanes) ∙ is.total
          ∙ ap (λ n. n * 2 ^ w) ends ∙ is.long_is.counted ∙ sym (ap (λ b. if b then 2 ^ beat.size else 0) carries);
      whole = more_whole w beats bytes spoiled beat lanes formed is;
    }

-- ---- the first beat of a long request

pub begins_long : (w : ℕ) (beat : AskHead) → ends_ask (2 ^ w) None beat ≡ false → IsLong w (nat_lt beat.opcode 4) beat.size
begins_long w beat goes_on =
    long w beat.size (nat_lt beat.opcode 4)
    (omega (
      arith,
      some_beat (2 ^ w) beat.size (nat_lt beat.opcode 4),
      eqb-false 1 (ask_beats (2 ^ w) beat) goes_on,
    ))
  where
    some_beat : (bus size : ℕ) (carries : Bool) → 0 < beat_count_on_bus bus carries size
    some_beat bus size true = omega arith
    some_beat bus size false = omega arith

pub kept_first : (w : ℕ) (beat : AskHead) (lanes : List ℕ) → FitsAsk (2 ^ w) None beat → length lanes ≡ 2 ^ w
    → ends_ask (2 ^ w) None beat ≡ false
    → IsAskKept (2 ^ w)
    (Some (record { first = beat; beats = 1; bytes = all_shown beat lanes; spoiled = all_marks beat lanes }))
kept_first w beat lanes fits wide goes_on =
    let l = begins_long w beat goes_on in
    let formed = fits.formed in
    let named : op_of beat.opcode beat.param ≡ formed.op = op_named formed.op beat.opcode beat.param formed.code in
    let after : AskBegun = record { first = beat; beats = 1; bytes = all_shown beat lanes; spoiled = all_marks beat lanes } in
    let begun : IsAskBegun (2 ^ w) after = record {
      formed = formed;
      some = omega arith;
      unfinished = go l;
      counted = length-all_shown beat lanes ∙ wide ∙ omega arith;
      whole = λ no. rw (part_of_long w beat lanes wide formed l)
          (part_some w beat lanes (formed.mask.whole (ap may_leave_unset (sym named) ∙ no)));
      marked = even beat lanes;
    } in
    record { of = λ b at. let e : after ≡ b = cc in subst (λ (x : AskBegun). IsAskBegun (2 ^ w) x) e begun }
  where
    some_beat : (bus size : ℕ) (carries : Bool) → 0 < beat_count_on_bus bus carries size
    some_beat bus size true = omega arith
    some_beat bus size false = omega arith

    go : IsLong w (nat_lt beat.opcode 4) beat.size → 1 < ask_beats (2 ^ w) beat
    go l = omega (arith, some_beat (2 ^ w) beat.size (nat_lt beat.opcode 4), eqb-false 1 (ask_beats (2 ^ w) beat) goes_on)

pub first_is : (w : ℕ) (beat : AskHead) (lanes : List ℕ) → FitsAsk (2 ^ w) None beat → length lanes ≡ 2 ^ w
    → (goes_on : ends_ask (2 ^ w) None beat ≡ false)
    → ◌≡◌ {A =
    Option AskBegun} (Some (record { first = beat; beats = 1; bytes = all_shown beat lanes; spoiled = all_marks beat lanes }))
    (ask_after (2 ^ w) None beat lanes)
first_is w beat lanes fits wide goes_on =
    let l = begins_long w beat goes_on in
    rw (goes_on, part_of_long w beat lanes wide fits.formed l, marks_of_long w beat lanes wide fits.formed l) refl

-- ---- the last beat

pub ends_after : (bus : ℕ) (first : Option AskHead) (beats : ℕ) (bytes : List (Option ℕ)) (spoiled : List Bool) (beat : AskHead)
    → (ask_begun first beats bytes spoiled ≡ None → ⊥)
    → ends_ask bus (ask_begun first beats bytes spoiled) beat ≡ true → beats + 1 ≡ ask_beats bus beat
ends_after bus None beats bytes spoiled beat some ends = absurd (some refl)
ends_after bus (Some head) beats bytes spoiled beat some ends = eqb-true (beats + 1) (ask_beats bus beat) ends

pub bytes_after : (first : Option AskHead) (beats : ℕ) (bytes : List (Option ℕ)) (spoiled : List Bool)
    → (ask_begun first beats bytes spoiled ≡ None → ⊥) → asked_bytes (ask_begun first beats bytes spoiled) ≡ bytes
bytes_after None beats bytes spoiled some = absurd (some refl)
bytes_after (Some head) beats bytes spoiled some = refl

pub marks_after : (first : Option AskHead) (beats : ℕ) (bytes : List (Option ℕ)) (spoiled : List Bool)
    → (ask_begun first beats bytes spoiled ≡ None → ⊥) → asked_spoiled (ask_begun first beats bytes spoiled) ≡ spoiled
marks_after None beats bytes spoiled some = absurd (some refl)
marks_after (Some head) beats bytes spoiled some = refl

-- ---- a beat with the fields and the mask of the first

pub formed_alike : (bus : ℕ) (head beat : AskHead) → IsFormed bus head → SameFields head beat → beat.mask ≡ head.mask
    → beat.corrupt ≡ false → IsFormed bus beat
formed_alike bus head beat formed same mask clean = record {
  op = formed.op;
  code = record { opcode_is = formed.code.opcode_is ∙ sym same.opcode; param_is = formed.code.param_is ∙ sym same.param };
  in_limit = rw same.size formed.in_limit;
  mask = rw (same.size, same.address, mask) formed.mask;
  flag = λ bare. clean;
}

pub fits_alike : (bus : ℕ) (first : Option AskHead) (head beat : AskHead) → first ≡ Some head → IsFormed bus head
    → SameFields head beat → beat.mask ≡ head.mask → beat.corrupt ≡ false → FitsAsk bus first beat
fits_alike bus first head beat is formed same mask clean = record {
  formed = formed_alike bus head beat formed same mask clean;
  same = λ h at. let e : head ≡ h = cc in subst (λ (x : AskHead). SameFields x beat) e same;
}
