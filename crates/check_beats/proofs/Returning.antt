-- What has crossed of a reply, and one beat more.
use Rattle.std.proofs.Common.{◌≡◌, ◌∙◌, ℕ, ◌+◌, ◌*◌, ◌^◌, ◌%◌, ◌<◌, ◌≤◌, min, Bool, true, false, if◌then◌else◌, List, ◌++◌, length, replicate, Option, Some, None, ap, sym, subst, refl, arith, lit≤, eqb-true, length-append}
use Rattle.std.specs.Prelude.{All, IsTrue, ◌==◌}
use Rattle.std.proofs.Math.Nat.{pow-le-pow_right}
use Rattle.std.proofs.lemmas.Bool.{eqb-false}
use Rattle.std.proofs.lemmas.Nat.{mul-le}
use Rattle.std.proofs.lemmas.List.{length-replicate}
use Rattle.std.proofs.lemmas.List.Elements.{All-append}
use Rattle.tl_types.specs.Operation.{reply_carries_bytes, reply_byte_count}
use Rattle.check_beats.specs.Spelling.{IsLawfulPattern}
use Rattle.check_beats.specs.Bus.{low, beat_count_on_bus}
use Rattle.check_beats.specs.Form.{IsFormedReply, FitsReply, SameReplyFields}
use Rattle.check_beats.specs.Message.{reply_op_of_number, is_spoiled, seen_cells, reply_part, reply_part_count, spoiled_part, reply_beats}
use Rattle.check_beats.specs.State.{ReplyBegun, reply_begun, first_reply, replied_beats, replied_bytes, replied_spoiled, ends_reply, reply_after}
use Rattle.check_beats.specs.Begun.{IsReplyBegun, IsReplyKept}
use Rattle.check_beats.specs.declared.beat.ReplyHead.{ReplyHead}
use Rattle.check_beats.proofs.Window.{low-wide}
use Rattle.check_beats.proofs.Seen.{reply_op_named, reply_carries_named, length-seen_at, seen_clean, one_reply_is_counted}
use Rattle.check_beats.proofs.Spoiled.{Nothing, nothing_seen, nothing_more}
use Rattle.check_beats.proofs.Going.{IsLong, long, few}

-- a beat of a long reply carries the bytes at all lanes, whatever the address
pub part_of_long_reply : (w address : ℕ) (beat : ReplyHead) (known : ℕ) (lanes : List ℕ) → length lanes ≡ 2 ^ w
    → IsFormedReply beat → IsLong w (beat.opcode == 1) beat.size
    → seen_cells beat known lanes 0 (length lanes) ≡ reply_part (2 ^ w) address beat known lanes
part_of_long_reply w address beat known lanes wide formed is =
    let op = reply_op_of_number beat.opcode in
    let carries : reply_carries_bytes op ≡ true =
    ap reply_carries_bytes (reply_op_named formed.op beat.opcode formed.code)
    ∙ sym (reply_carries_named formed.op beat.opcode formed.code) ∙ is.carries_is in
    let bytes : reply_byte_count op beat.size ≡ 2 ^ beat.size = ap (λ b. if b then 2 ^ beat.size else 0) carries in
    let fits : 2 ^ w ≤ 2 ^ beat.size = pow-le-pow_right (lit≤ tt) is.wide in
    let count : length lanes ≡ min (2 ^ w) (reply_byte_count op beat.size) = omega (arith, wide, bytes, fits) in
    let first : 0 ≡ low address beat.size % 2 ^ w = sym (low-wide w address beat.size is.wide) in
    ap (λ n. seen_cells beat known lanes 0 n) count
    ∙ ap (λ n. seen_cells beat known lanes n (min (2 ^ w) (reply_byte_count op beat.size))) first

-- its bytes are all marked as it is
marks_of_long_reply : (w : ℕ) (beat : ReplyHead) (lanes : List ℕ) → length lanes ≡ 2 ^ w
    → IsFormedReply beat → IsLong w (beat.opcode == 1) beat.size
    → replicate (length lanes) (is_spoiled beat) ≡ spoiled_part (2 ^ w) beat
marks_of_long_reply w beat lanes wide formed is =
    let op = reply_op_of_number beat.opcode in
    let carries : reply_carries_bytes op ≡ true =
    ap reply_carries_bytes (reply_op_named formed.op beat.opcode formed.code)
    ∙ sym (reply_carries_named formed.op beat.opcode formed.code) ∙ is.carries_is in
    let bytes : reply_byte_count op beat.size ≡ 2 ^ beat.size = ap (λ b. if b then 2 ^ beat.size else 0) carries in
    let fits : 2 ^ w ≤ 2 ^ beat.size = pow-le-pow_right (lit≤ tt) is.wide in
    let count : length lanes ≡ min (2 ^ w) (reply_byte_count op beat.size) = omega (arith, wide, bytes, fits) in
    ap (λ n. replicate n (is_spoiled beat)) count

pub few_replied : (w : ℕ) (begun : Option ReplyBegun) → IsReplyKept (2 ^ w) begun → replied_beats begun ≤ 256
few_replied w None kept = omega arith
few_replied w (Some b) kept =
    let is = kept.of b refl in
    omega (arith, is.unfinished, few w b.first.size (b.first.opcode == 1) is.formed.in_limit)

pub first_reply_of : (first : Option ReplyHead) (beats : ℕ) (bytes : List (Option ℕ)) (spoiled : List Bool) → first_reply (reply_begun first beats bytes spoiled) ≡ first
first_reply_of None beats bytes spoiled = refl
first_reply_of (Some head) beats bytes spoiled = refl

-- ---- a beat after the first

pub record Returns
    (w beats : ℕ) (bytes : List (Option ℕ)) (spoiled : List Bool) (beat : ReplyHead) (known : ℕ) (lanes : List ℕ) : Type 0 where
  pub long_is : IsLong w (beat.opcode == 1) beat.size
  pub part : (address : ℕ) → seen_cells beat known lanes 0 (length lanes) ≡ reply_part (2 ^ w) address beat known lanes
  pub within : beats + 1 ≤ reply_beats (2 ^ w) beat
  pub total : length bytes + length lanes ≡ (beats + 1) * 2 ^ w
  pub room : length bytes + length lanes ≤ 256
  pub in_limit : beats + 1 ≤ 256
  pub clean : IsTrue beat.denied → All (λ b. b ≡ Some 0) bytes
  pub marks : replicate (length lanes) (is_spoiled beat) ≡ spoiled_part (2 ^ w) beat
  pub marked : length spoiled ≡ length bytes
  pub nothing : Nothing spoiled bytes

same_count : (bus : ℕ) (head beat : ReplyHead) → SameReplyFields head beat → reply_beats bus beat ≡ reply_beats bus head
same_count bus head beat same = rw (same.opcode, same.size) refl

pub returns : (w : ℕ) (first : Option ReplyHead) (beats : ℕ) (bytes : List (Option ℕ)) (spoiled : List Bool) (beat : ReplyHead)
    (known : ℕ) (lanes : List ℕ)
    → IsReplyKept (2 ^ w) (reply_begun first beats bytes spoiled)
    → FitsReply (first_reply (reply_begun first beats bytes spoiled)) beat → length lanes ≡ 2 ^ w
    → (reply_begun first beats bytes spoiled ≡ None → ⊥) → Returns w beats bytes spoiled beat known lanes
returns w None beats bytes spoiled beat known lanes kept fits wide some = absurd (some refl)
returns w (Some head) beats bytes spoiled beat known lanes kept fits wide some =
    let is = kept.of (record { first = head; beats = beats; bytes = bytes; spoiled = spoiled }) refl in
    let same : SameReplyFields head beat = fits.same head refl in
    let as_first = same_count (2 ^ w) head beat same in
    let within : beats + 1 ≤ reply_beats (2 ^ w) beat = omega (arith, is.unfinished, as_first) in
    let l = long w beat.size (beat.opcode == 1) (omega (arith, is.some, within)) in
    let most : 2 ^ beat.size ≤ 2 ^ 8 = pow-le-pow_right (lit≤ tt) fits.formed.in_limit in
    let row : (beats + 1) * 2 ^ w ≤ reply_beats (2 ^ w) beat * 2 ^ w =
    mul-le (beats + 1) (2 ^ w) (reply_beats (2 ^ w) beat) (2 ^ w) within (omega arith) in
    let more : (beats + 1) * 2 ^ w ≡ beats * 2 ^ w + 2 ^ w = search arith in
    record {
      long_is = l;
      part = λ address. part_of_long_reply w address beat known lanes wide fits.formed l;
      within = within;
      total = omega (arith, is.counted, wide, more);
      room = omega (arith, is.counted, wide, more, row, l.counted, most);
      in_limit = omega (arith, within, few w beat.size (beat.opcode == 1) fits.formed.in_limit);
      clean = λ denied. is.clean (sym same.denied ∙ denied);
      marks = marks_of_long_reply w beat lanes wide fits.formed l;
      marked = is.marked;
      nothing = is.nothing;
    }

more_clean : (w beats : ℕ) (bytes : List (Option ℕ)) (spoiled : List Bool) (beat : ReplyHead) (known : ℕ) (lanes : List ℕ)
    → Returns w beats bytes spoiled beat known lanes
    → IsTrue beat.denied → All (λ b. b ≡ Some 0) (bytes ++ seen_cells beat known lanes 0 (length lanes))
more_clean w beats bytes spoiled beat known lanes is denied =
    All-append (λ (b : Option ℕ). b ≡ Some 0) bytes (seen_cells beat known lanes 0 (length lanes))
    (is.clean denied) (seen_clean beat known lanes 0 (length lanes) denied)

-- a beat has a mark for each byte
even : (beat : ReplyHead) (known : ℕ) (lanes : List ℕ)
    → length (replicate (length lanes) (is_spoiled beat)) ≡ length (seen_cells beat known lanes 0 (length lanes))
even beat known lanes =
    length-replicate (length lanes) (is_spoiled beat) ∙ sym (length-seen_at beat known lanes 0 (length lanes))

more_marked : (w beats : ℕ) (bytes : List (Option ℕ)) (spoiled : List Bool) (beat : ReplyHead) (known : ℕ) (lanes : List ℕ)
    → Returns w beats bytes spoiled beat known lanes
    → length (spoiled ++ replicate (length lanes) (is_spoiled beat)) ≡ length (bytes ++ seen_cells beat known lanes 0 (length lanes))
more_marked w beats bytes spoiled beat known lanes is =
    omega (
      arith,
      length-append spoiled (replicate (length lanes) (is_spoiled beat)),
      length-append bytes (seen_cells beat known lanes 0 (length lanes)),
      is.marked,
      even beat known lanes,
    )

more_nothing : (w beats : ℕ) (bytes : List (Option ℕ)) (spoiled : List Bool) (beat : ReplyHead) (known : ℕ) (lanes : List ℕ)
    → Returns w beats bytes spoiled beat known lanes
    → Nothing (spoiled ++ replicate (length lanes) (is_spoiled beat)) (bytes ++ seen_cells beat known lanes 0 (length lanes))
more_nothing w beats bytes spoiled beat known lanes is =
    nothing_more spoiled (replicate (length lanes) (is_spoiled beat)) bytes (seen_cells beat known lanes 0 (length lanes)) is.marked
    (even beat known lanes) is.nothing (nothing_seen beat known lanes 0 (length lanes))

pub reply_kept_on : (w : ℕ) (first : Option ReplyHead) (beats : ℕ) (bytes : List (Option ℕ)) (spoiled : List Bool) (beat : ReplyHead)
    (known : ℕ) (lanes : List ℕ)
    → IsReplyKept (2 ^ w) (reply_begun first beats bytes spoiled) → FitsReply (first_reply (reply_begun first beats bytes spoiled)) beat
    → (reply_begun first beats bytes spoiled ≡ None → ⊥) → Returns w beats bytes spoiled beat known lanes
    → ends_reply (2 ^ w) (reply_begun first beats bytes spoiled) beat ≡ false
    → IsReplyKept (2 ^ w) (reply_begun first (beats + 1) (bytes ++ seen_cells beat known lanes 0 (length lanes))
    (spoiled ++ replicate (length lanes) (is_spoiled beat)))
reply_kept_on w None beats bytes spoiled beat known lanes kept fits some is goes_on = absurd (some refl)
reply_kept_on w (Some head) beats bytes spoiled beat known lanes kept fits some is goes_on =
    let was = kept.of (record { first = head; beats = beats; bytes = bytes; spoiled = spoiled }) refl in
    let same : SameReplyFields head beat = fits.same head refl in
    let after : ReplyBegun =
    record {
      first = head;
      beats = beats + 1;
      bytes = bytes ++ seen_cells beat known lanes 0 (length lanes);
      spoiled = spoiled ++ replicate (length lanes) (is_spoiled beat);
    } in
    let begun : IsReplyBegun (2 ^ w) after = record {
      formed = was.formed;
      some = omega arith;
      unfinished = omega (arith, is.within, same_count (2 ^ w) head beat same, eqb-false (beats + 1) (reply_beats (2 ^ w) beat) goes_on);
      counted = length-append bytes (seen_cells beat known lanes 0 (length lanes))
          ∙ ap (λ n. length bytes + n) (length-seen_at beat known lanes 0 (length lanes)) ∙ is.total;
      clean = λ denied. more_clean w beats bytes spoiled beat known lanes is (same.denied ∙ denied);
      marked = more_marked w beats bytes spoiled beat known lanes is;
      nothing = more_nothing w beats bytes spoiled beat known lanes is;
    } in
    record { of = λ b at. let e : after ≡ b = cc in subst (λ (x : ReplyBegun). IsReplyBegun (2 ^ w) x) e begun }

pub reply_on_is : (w : ℕ) (first : Option ReplyHead) (beats : ℕ) (bytes : List (Option ℕ)) (spoiled : List Bool) (beat : ReplyHead)
    (known : ℕ) (lanes : List ℕ) → length lanes ≡ 2 ^ w
    → (reply_begun first beats bytes spoiled ≡ None → ⊥) → ends_reply (2 ^ w) (reply_begun first beats bytes spoiled) beat ≡ false
    → reply_begun first (beats + 1) (bytes ++ seen_cells beat known lanes 0 (length lanes))
    (spoiled ++ replicate (length lanes) (is_spoiled beat))
    ≡ reply_after (2 ^ w) (reply_begun first beats bytes spoiled) beat known lanes
reply_on_is w None beats bytes spoiled beat known lanes wide some goes_on = absurd (some refl)
reply_on_is w (Some head) beats bytes spoiled beat known lanes wide some goes_on = rw (goes_on, wide) refl

-- the flag of a captured reply
denied_if : (denied : Bool) → ◌≡◌ {A = Option Bool} (Some denied) (Some true) → IsTrue denied
denied_if false is = absurd (cc)
denied_if true is = refl

pub ended_reply_is_lawful : (w beats source : ℕ) (bytes : List (Option ℕ)) (spoiled : List Bool) (beat : ReplyHead) (known : ℕ) (lanes : List ℕ)
    → IsFormedReply beat → Returns w beats bytes spoiled beat known lanes → beats + 1 ≡ reply_beats (2 ^ w) beat
    → IsLawfulPattern (record {
      op = reply_op_of_number beat.opcode;
      size = beat.size;
      source = source;
      denied = Some beat.denied;
      bytes = bytes ++ seen_cells beat known lanes 0 (length lanes);
      spoiled = spoiled ++ replicate (length lanes) (is_spoiled beat);
    })
ended_reply_is_lawful w beats source bytes spoiled beat known lanes formed is ends =
    let op = reply_op_of_number beat.opcode in
    let carries : reply_carries_bytes op ≡ true =
    ap reply_carries_bytes (reply_op_named formed.op beat.opcode formed.code)
    ∙ sym (reply_carries_named formed.op beat.opcode formed.code) ∙ is.long_is.carries_is in
    record {
      in_limit = formed.in_limit;
      counted = length-append bytes (seen_cells beat known lanes 0 (length lanes))
          ∙ ap (λ n. length bytes + n) (length-seen_at beat known lanes 0 (length lanes)) ∙ is.total
          ∙ ap (λ n. n * 2 ^ w) ends ∙ is.long_is.counted ∙ sym (ap (λ b. if b then 2 ^ beat.size else 0) carries);
      clean = λ denied. more_clean w beats bytes spoiled beat known lanes is (denied_if beat.denied denied);
      marked = more_marked w beats bytes spoiled beat known lanes is;
      nothing = more_nothing w beats bytes spoiled beat known lanes is;
    }

-- one beat that is lawful alone, and is all of its reply, carries the bytes of a lawful one
pub one_reply_is_lawful : (w address : ℕ) (beat : ReplyHead) (known : ℕ) (lanes : List ℕ) → IsFormedReply beat
    → reply_beats (2 ^ w) beat ≡ 1
    → IsLawfulPattern (record {
      op = reply_op_of_number beat.opcode;
      size = beat.size;
      source = beat.source;
      denied = Some beat.denied;
      bytes = reply_part (2 ^ w) address beat known lanes;
      spoiled = spoiled_part (2 ^ w) beat;
    })
one_reply_is_lawful w address beat known lanes formed alone = record {
  in_limit = formed.in_limit;
  counted = one_reply_is_counted w address beat known lanes formed alone;
  clean = λ denied. seen_clean beat known lanes (low address beat.size % 2 ^ w)
      (reply_part_count (2 ^ w) beat) (denied_if beat.denied denied);
  marked = length-replicate (reply_part_count (2 ^ w) beat) (is_spoiled beat)
      ∙ sym (length-seen_at beat known lanes (low address beat.size % 2 ^ w) (reply_part_count (2 ^ w) beat));
  nothing = nothing_seen beat known lanes (low address beat.size % 2 ^ w) (reply_part_count (2 ^ w) beat);
}

-- ---- the first beat of a long reply

some_beat : (bus size : ℕ) (carries : Bool) → 0 < beat_count_on_bus bus carries size
some_beat bus size true = omega arith
some_beat bus size false = omega arith

pub reply_kept_first : (w : ℕ) (beat : ReplyHead) (known : ℕ) (lanes : List ℕ) → FitsReply None beat
    → length lanes ≡ 2 ^ w → ends_reply (2 ^ w) None beat ≡ false
    → IsReplyKept (2 ^ w) (Some (record {
      first = beat;
      beats = 1;
      bytes = seen_cells beat known lanes 0 (length lanes);
      spoiled = replicate (length lanes) (is_spoiled beat);
    }))
reply_kept_first w beat known lanes fits wide goes_on =
    let after : ReplyBegun = record {
      first = beat;
      beats = 1;
      bytes = seen_cells beat known lanes 0 (length lanes);
      spoiled = replicate (length lanes) (is_spoiled beat);
    } in
    let begun : IsReplyBegun (2 ^ w) after = record {
      formed = fits.formed;
      some = omega arith;
      unfinished = omega (arith, some_beat (2 ^ w) beat.size (beat.opcode == 1), eqb-false 1 (reply_beats (2 ^ w) beat) goes_on);
      counted = length-seen_at beat known lanes 0 (length lanes) ∙ wide ∙ omega arith;
      clean = seen_clean beat known lanes 0 (length lanes);
      marked = even beat known lanes;
      nothing = nothing_seen beat known lanes 0 (length lanes);
    } in
    record { of = λ b at. let e : after ≡ b = cc in subst (λ (x : ReplyBegun). IsReplyBegun (2 ^ w) x) e begun }

pub reply_first_is : (w : ℕ) (beat : ReplyHead) (known : ℕ) (lanes : List ℕ) → length lanes ≡ 2 ^ w
    → (goes_on : ends_reply (2 ^ w) None beat ≡ false)
    → ◌≡◌ {A =
    Option ReplyBegun}
    (Some (record {
      first = beat;
      beats = 1;
      bytes = seen_cells beat known lanes 0 (length lanes);
      spoiled = replicate (length lanes) (is_spoiled beat);
    }))
    (reply_after (2 ^ w) None beat known lanes)
reply_first_is w beat known lanes wide goes_on = rw (goes_on, wide) refl

-- ---- the last beat

pub reply_ends_after : (bus : ℕ) (first : Option ReplyHead) (beats : ℕ) (bytes : List (Option ℕ)) (spoiled : List Bool) (beat : ReplyHead)
    → (reply_begun first beats bytes spoiled ≡ None → ⊥)
    → ends_reply bus (reply_begun first beats bytes spoiled) beat ≡ true → beats + 1 ≡ reply_beats bus beat
reply_ends_after bus None beats bytes spoiled beat some ends = absurd (some refl)
reply_ends_after bus (Some head) beats bytes spoiled beat some ends = eqb-true (beats + 1) (reply_beats bus beat) ends

pub reply_bytes_after : (first : Option ReplyHead) (beats : ℕ) (bytes : List (Option ℕ)) (spoiled : List Bool)
    → (reply_begun first beats bytes spoiled ≡ None → ⊥) → replied_bytes (reply_begun first beats bytes spoiled) ≡ bytes
reply_bytes_after None beats bytes spoiled some = absurd (some refl)
reply_bytes_after (Some head) beats bytes spoiled some = refl

pub reply_marks_after : (first : Option ReplyHead) (beats : ℕ) (bytes : List (Option ℕ)) (spoiled : List Bool)
    → (reply_begun first beats bytes spoiled ≡ None → ⊥) → replied_spoiled (reply_begun first beats bytes spoiled) ≡ spoiled
reply_marks_after None beats bytes spoiled some = absurd (some refl)
reply_marks_after (Some head) beats bytes spoiled some = refl

-- ---- a beat with the fields and the flag of the first

pub reply_fits_alike : (first : Option ReplyHead) (head beat : ReplyHead) → first ≡ Some head → IsFormedReply head
    → SameReplyFields head beat → beat.corrupt ≡ head.corrupt → FitsReply first beat
reply_fits_alike first head beat is formed same flag = record {
  formed = record {
    op = formed.op;
    code = formed.code ∙ sym same.opcode;
    param = same.param ∙ formed.param;
    in_limit = rw same.size formed.in_limit;
    flag = rw (same.denied, flag) formed.flag;
  };
  same = λ h at. let e : head ≡ h = cc in subst (λ (x : ReplyHead). SameReplyFields x beat) e same;
}

pub reply_of_first : (bus : ℕ) (first : Option ReplyHead) (head : ReplyHead) (beats : ℕ) (bytes : List (Option ℕ)) (spoiled : List Bool)
    → IsReplyKept bus (reply_begun first beats bytes spoiled) → first ≡ Some head
    → IsReplyBegun bus (record { first = head; beats = beats; bytes = bytes; spoiled = spoiled })
reply_of_first bus first head beats bytes spoiled kept is =
    kept.of (record { first = head; beats = beats; bytes = bytes; spoiled = spoiled }) (ap (λ o. reply_begun o beats bytes spoiled) is)
