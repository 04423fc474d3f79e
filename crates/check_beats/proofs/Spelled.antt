-- What all beats of a request spell is the request that is gathered from them.
use Rattle.std.proofs.Common.{◌≡◌, ◌∙◌, ℕ, ◌+◌, ◌*◌, ◌/◌, ◌^◌, ◌%◌, ◌<◌, ◌⊎◌, inl, inr, min, Bool, true, false, if◌then◌else◌, List, [], ◌∷◌, ◌++◌, length, Option, Some, None, slice_get, ap, sym, subst, refl, arith, eqb-true, append_assoc, append-nil, length-append}
use Rattle.std.specs.Prelude.{slice_index, ◌==◌}
use Rattle.std.specs.Int.{bit_at}
use Rattle.std.specs.List.{flat_map, AllByRecursion}
use Rattle.std.proofs.lemmas.Bool.{eqb-false}
use Rattle.std.proofs.lemmas.Nat.Bits.{bit_at-lt}
use Rattle.std.proofs.lemmas.Option.{slice_get_within, get_or_from_slice_get}
use Rattle.std.proofs.lemmas.List.{get_or-replicate, length-replicate}
use Rattle.tl_types.proofs.Lists.{slice_get-push}
use Rattle.tl_types.specs.Operation.{carries_bytes}
use Rattle.check_cells.specs.Sent.{Sent}
use Rattle.tl_types.specs.Wire.{opcode_of, param_of}
use Rattle.check_beats.specs.Bus.{low, lane_on_bus, beat_count_on_bus, bus_log}
use Rattle.check_beats.specs.Form.{IsFormed, FitsAsk, SameFields, IsLawfulMaskOnBus, IsRightAskMark}
use Rattle.check_beats.specs.Message.{op_of, byte_at, shown_lanes, ask_part, ask_part_count, spoiled_ask_part, ask_beats}
use Rattle.check_beats.specs.State.{AskBegun, ask_begun, first_ask, asked_beats, asked_bytes, asked_spoiled, ends_ask, ask_of, ask_after}
use Rattle.check_beats.specs.Begun.{IsAskKept}
use Rattle.check_beats.specs.Spelling.{AskBeat, StandsAt, HasFieldsOf, IsBeatOf, SpellsAskOnBus, IsLawfulSent}
use Rattle.check_beats.specs.Laws.{asking, AreFitting, begun, ended_asks, channel, IsSpelled, ChannelIsCutUp, AskIsSpelled}
use Rattle.check_beats.specs.declared.beat.AskHead.{AskHead}
use Rattle.check_beats.proofs.Window.{lane_wide, lane_in_window, some_count}
use Rattle.check_beats.proofs.Given.{op_named, carries_named, length-given_at, given_at-get, marks_of_part, one_is_lawful}
use Rattle.check_beats.proofs.Standing.{Stand, none_stand, more_stand}
use Rattle.check_beats.proofs.Going.{Goes, goes, all_shown, length-all_shown, all_marks, more_marked, kept_on, on_is, ended_is_lawful, kept_first, first_is}

-- what is read at a lane stands there
pub byte_stands : (mask : ℕ) (lanes : List ℕ) (lane : ℕ) → StandsAt mask lanes lane (byte_at mask lanes lane)
byte_stands mask lanes lane = go (bit_at mask lane == 1) refl
  where
    go : (set : Bool) → (bit_at mask lane == 1) ≡ set → StandsAt mask lanes lane (if set then Some (slice_index lanes lane) else None)
    go true is = (eqb-true (bit_at mask lane) 1 is, refl)
    go false is = omega (arith, bit_at-lt mask lane, eqb-false (bit_at mask lane) 1 is)

-- what stands at a lane of a beat, as it is looked at, and whether its bytes are spoiled
abbrev pub stands_there : ℕ → AskBeat → ℕ → Option ℕ
stands_there bus x lane = byte_at x.head.mask (shown_lanes bus x.head x.lanes) lane

abbrev pub marked_there : AskBeat → ℕ → Bool
marked_there x lane = x.head.corrupt

-- the bytes of a beat more, and their marks
more_bytes : (w : ℕ) (bytes : List (Option ℕ)) (beats : List AskBeat) (x : AskBeat) → length bytes ≡ length beats * 2 ^ w
    → length x.lanes ≡ 2 ^ w → Stand (stands_there (2 ^ w)) w bytes beats
    → Stand (stands_there (2 ^ w)) w (bytes ++ all_shown x.head x.lanes) (beats ++ x ∷ [])
more_bytes w bytes beats x counted wide stand =
    more_stand (stands_there (2 ^ w)) w None bytes (all_shown x.head x.lanes) beats x counted
    (λ i lane.
    let none : 0 + i ≡ i = omega arith in
    given_at-get x.head.mask (shown_lanes (length x.lanes) x.head x.lanes) 0 (length x.lanes) i (omega (arith, lane, wide))
    ∙ ap (λ n. stands_there (length x.lanes) x n) none ∙ ap (λ n. stands_there n x i) wide) stand

more_marks : (w : ℕ) (spoiled : List Bool) (beats : List AskBeat) (x : AskBeat) → length spoiled ≡ length beats * 2 ^ w
    → length x.lanes ≡ 2 ^ w → Stand marked_there w spoiled beats
    → Stand marked_there w (spoiled ++ all_marks x.head x.lanes) (beats ++ x ∷ [])
more_marks w spoiled beats x counted wide stand =
    more_stand marked_there w false spoiled (all_marks x.head x.lanes) beats x counted
    (λ i lane. get_or-replicate (length x.lanes) i x.head.corrupt false (omega (arith, lane, wide))) stand

-- ---- what is kept is what the beats say

pub record Gathered (w : ℕ) (begun : Option AskBegun) (beats : List AskBeat) : Type 0 where
  pub kept : IsAskKept (2 ^ w) begun
  pub empty : begun ≡ None → beats ≡ []
  pub counted : length beats ≡ asked_beats begun
  pub filled : length (asked_bytes begun) ≡ length beats * 2 ^ w
  pub each : (k : ℕ) (x : AskBeat) → slice_get beats k ≡ Some x
      → IsFormed (2 ^ w) x.head × ((h : AskHead) → first_ask begun ≡ Some h → SameFields h x.head)
  pub marked : length (asked_spoiled begun) ≡ length beats * 2 ^ w
  pub stand : Stand (stands_there (2 ^ w)) w (asked_bytes begun) beats
  pub marks : Stand marked_there w (asked_spoiled begun) beats

pub itself : (a : AskHead) → SameFields a a
itself a = record { opcode = refl; param = refl; size = refl; source = refl; address = refl }

between : (h a b : AskHead) → SameFields h a → SameFields h b → SameFields a b
between h a b p q = record {
  opcode = q.opcode ∙ sym p.opcode;
  param = q.param ∙ sym p.param;
  size = q.size ∙ sym p.size;
  source = q.source ∙ sym p.source;
  address = q.address ∙ sym p.address;
}

nothing_gathered : (w : ℕ) → Gathered w None []
nothing_gathered w = record {
  kept = record { of = λ b at. absurd (cc) };
  empty = λ e. refl;
  counted = refl;
  filled = omega arith;
  each = λ k x at. absurd (cc);
  marked = omega arith;
  stand = none_stand (stands_there (2 ^ w)) w;
  marks = none_stand marked_there w;
}

first_gathered : (w : ℕ) (x : AskBeat) → FitsAsk (2 ^ w) None x.head → length x.lanes ≡ 2 ^ w → ends_ask (2 ^ w) None x.head ≡ false
    → Gathered w
    (Some (record {
      first = x.head;
      beats = 1;
      bytes = all_shown x.head x.lanes;
      spoiled = all_marks x.head x.lanes;
    }))
    ([] ++ x ∷ [])
first_gathered w x fits wide goes_on = record {
  kept = kept_first w x.head x.lanes fits wide goes_on;
  empty = λ e. absurd (cc);
  counted = refl;
  filled = length-all_shown x.head x.lanes ∙ wide ∙ omega arith;
  each = λ k y at. only k y (slice_get-push [] x y k at);
  marked = length-replicate (length x.lanes) x.head.corrupt ∙ wide ∙ omega arith;
  stand = more_bytes w [] [] x (omega arith) wide (none_stand (stands_there (2 ^ w)) w);
  marks = more_marks w [] [] x (omega arith) wide (none_stand marked_there w);
}
  where
    only : (k : ℕ) (y : AskBeat) → (slice_get [] k ≡ Some y) ⊎ ((k ≡ 0) × (x ≡ y))
        → IsFormed (2 ^ w) y.head × ((h : AskHead) → Some x.head ≡ Some h → SameFields h y.head)
    only k y (inl never) = absurd (cc)
    only k y (inr last) =
        let P : AskBeat → Type 0 = λ z. IsFormed (2 ^ w) z.head × ((h : AskHead) → Some x.head ≡ Some h → SameFields h z.head) in
        subst P last.1 (
          fits.formed,
          (λ h e. let same : x.head ≡ h = cc in subst (λ (a : AskHead). SameFields a x.head) same (itself x.head)),
        )

pub next_gathered : (w : ℕ) (b : AskBegun) (beats : List AskBeat) (x : AskBeat) → Gathered w (Some b) beats
    → FitsAsk (2 ^ w) (Some b.first) x.head → length x.lanes ≡ 2 ^ w
    → ends_ask (2 ^ w) (Some b) x.head ≡ false
    → Gathered w
    (Some (record {
      first = b.first;
      beats = b.beats + 1;
      bytes = b.bytes ++ all_shown x.head x.lanes;
      spoiled = b.spoiled ++ all_marks x.head x.lanes;
    })) (beats ++ x ∷ [])
next_gathered w b beats x g fits wide goes_on =
    let some : ask_begun (Some b.first) b.beats b.bytes b.spoiled ≡ None → ⊥ = (λ e. absurd (cc)) in
    let is = goes w (Some b.first) b.beats b.bytes b.spoiled x.head x.lanes g.kept fits wide some in
    let counted : length (beats ++ x ∷ []) ≡ b.beats + 1 = omega (arith, length-append beats (x ∷ []), g.counted) in
    record {
      kept = kept_on w (Some b.first) b.beats b.bytes b.spoiled x.head x.lanes g.kept fits some is goes_on;
      empty = λ e. absurd (cc);
      counted = counted;
      filled = length-append b.bytes (all_shown x.head x.lanes)
          ∙ ap (λ n. length b.bytes + n) (length-all_shown x.head x.lanes)
          ∙ is.total ∙ ap (λ n. n * 2 ^ w) (sym counted);
      each = λ k y at. any k y (slice_get-push beats x y k at);
      marked = length-append b.spoiled (all_marks x.head x.lanes)
          ∙ ap (λ n. length b.spoiled + n) (length-replicate (length x.lanes) x.head.corrupt)
          ∙ ap (λ n. n + length x.lanes) is.marked ∙ is.total ∙ ap (λ n. n * 2 ^ w) (sym counted);
      stand = more_bytes w b.bytes beats x g.filled wide g.stand;
      marks = more_marks w b.spoiled beats x g.marked wide g.marks;
    }
  where
    any : (k : ℕ) (y : AskBeat) → (slice_get beats k ≡ Some y) ⊎ ((k ≡ length beats) × (x ≡ y))
        → IsFormed (2 ^ w) y.head × ((h : AskHead) → Some b.first ≡ Some h → SameFields h y.head)
    any k y (inl before) = g.each k y before
    any k y (inr last) =
        let P : AskBeat → Type 0 = λ z. IsFormed (2 ^ w) z.head × ((h : AskHead) → Some b.first ≡ Some h → SameFields h z.head) in
        subst P last.1 (fits.formed, fits.same)

gathered_after : (w : ℕ) (begun : Option AskBegun) (beats : List AskBeat) (x : AskBeat) → Gathered w begun beats
    → FitsAsk (2 ^ w) (first_ask begun) x.head → length x.lanes ≡ 2 ^ w
    → ends_ask (2 ^ w) begun x.head ≡ false → Gathered w (ask_after (2 ^ w) begun x.head x.lanes) (beats ++ x ∷ [])
gathered_after w None beats x g fits wide goes_on =
    let P : List AskBeat → Type 0 = λ bs. Gathered w (ask_after (2 ^ w) None x.head x.lanes) (bs ++ x ∷ []) in
    let Q : Option AskBegun → Type 0 = λ o. Gathered w o ([] ++ x ∷ []) in
    subst P (sym (g.empty refl)) (subst Q (first_is w x.head x.lanes fits wide goes_on) (first_gathered w x fits wide goes_on))
gathered_after w (Some b) beats x g fits wide goes_on =
    let some : ask_begun (Some b.first) b.beats b.bytes b.spoiled ≡ None → ⊥ = (λ e. absurd (cc)) in
    let is = goes w (Some b.first) b.beats b.bytes b.spoiled x.head x.lanes g.kept fits wide some in
    let Q : Option AskBegun → Type 0 = λ o. Gathered w o (beats ++ x ∷ []) in
    subst Q (on_is w (Some b.first) b.beats b.bytes b.spoiled x.head x.lanes some is goes_on) (next_gathered w b beats x g fits wide goes_on)

-- ---- the last beat

fields_of : (bus : ℕ) (x y : AskHead) (bytes : List (Option ℕ)) → IsFormed bus x → SameFields x y
    → HasFieldsOf (record { op = op_of x.opcode x.param; size = x.size; source = x.source; address = x.address; bytes = bytes }) y
fields_of bus x y bytes formed same =
    let named : op_of x.opcode x.param ≡ formed.op = op_named formed.op x.opcode x.param formed.code in
    record {
      opcode = same.opcode ∙ sym formed.code.opcode_is ∙ ap opcode_of (sym named);
      param = same.param ∙ sym formed.code.param_is ∙ ap param_of (sym named);
      size = same.size;
      source = same.source;
      address = same.address;
    }

mask_of : (bus : ℕ) (x y : AskHead) → IsFormed bus y → SameFields x y → IsLawfulMaskOnBus bus (op_of x.opcode x.param) x.size x.address y.mask
mask_of bus x y formed same =
    let named : op_of x.opcode x.param ≡ formed.op = rw (← same.opcode, ← same.param) (op_named formed.op y.opcode y.param formed.code) in
    rw (named, ← same.size, ← same.address) formed.mask

flag_of : (bus : ℕ) (x y : AskHead) → IsFormed bus y → SameFields x y → IsRightAskMark (op_of x.opcode x.param) y.corrupt
flag_of bus x y formed same =
    let named : op_of x.opcode x.param ≡ formed.op = rw (← same.opcode, ← same.param) (op_named formed.op y.opcode y.param formed.code) in
    rw named formed.flag

stands_so : (mask : ℕ) (lanes : List ℕ) (lane place : ℕ) (given : Option ℕ) → given ≡ byte_at mask lanes place
    → lane ≡ place → StandsAt mask lanes lane given
stands_so mask lanes lane place given is at =
    subst (λ (l : ℕ). StandsAt mask lanes l given) (sym at)
    (subst (λ (g : Option ℕ). StandsAt mask lanes place g) (sym is) (byte_stands mask lanes place))

carries_of : (bus : ℕ) (x : AskHead) → IsFormed bus x → ask_beats bus x ≡ beat_count_on_bus bus (carries_bytes (op_of x.opcode x.param)) x.size
carries_of bus x formed =
    let named : op_of x.opcode x.param ≡ formed.op = op_named formed.op x.opcode x.param formed.code in
    ap (λ b. beat_count_on_bus bus b x.size) (carries_named formed.op x.opcode x.param formed.code ∙ ap carries_bytes (sym named))

one_spells : (w : ℕ) (x : AskBeat) → FitsAsk (2 ^ w) None x.head → ask_beats (2 ^ w) x.head ≡ 1
    → SpellsAskOnBus (2 ^ w) (ask_of (2 ^ w) None x.head x.lanes) ([] ++ x ∷ [])
one_spells w x fits alone = record {
  count = sym alone ∙ carries_of (2 ^ w) x.head fits.formed;
  each = λ b y at. only b y (slice_get-push [] x y b at);
}
  where
    only : (b : ℕ) (y : AskBeat) → (slice_get [] b ≡ Some y) ⊎ ((b ≡ 0) × (x ≡ y))
        → IsBeatOf (2 ^ w) (ask_of (2 ^ w) None x.head x.lanes) b y
    only b y (inl never) = absurd (cc)
    only b y (inr last) =
        let op = op_of x.head.opcode x.head.param in
        let first = low x.head.address x.head.size % 2 ^ w in
        let count = ask_part_count (2 ^ w) x.head in
        let shown = shown_lanes (2 ^ w) x.head x.lanes in
        let here : IsBeatOf (2 ^ w) (ask_of (2 ^ w) None x.head x.lanes) b x = record {
          fields = fields_of (2 ^ w) x.head x.head (ask_part (2 ^ w) x.head x.lanes) fits.formed (itself x.head);
          mask = mask_of (2 ^ w) x.head x.head fits.formed (itself x.head);
          flag = flag_of (2 ^ w) x.head x.head fits.formed (itself x.head);
          marks = λ j mark at row.
              let within : j < count = omega (arith, slice_get_within (spoiled_ask_part (2 ^ w) x.head) j mark at, length-replicate count x.head.corrupt) in
              sym (get_or_from_slice_get (spoiled_ask_part (2 ^ w) x.head) j mark false at) ∙ get_or-replicate count j x.head.corrupt false within;
          bytes = λ j given at row.
              let within : j < count =
              rw (← length-given_at x.head.mask shown first count)
              (slice_get_within (ask_part (2 ^ w) x.head x.lanes) j given at) in
              let below : j < min (2 ^ w) (2 ^ x.head.size) = omega (arith, within, some_count x.head.size (carries_bytes op)) in
              let is : given ≡ byte_at x.head.mask shown (first + j) =
              sym (get_or_from_slice_get (ask_part (2 ^ w) x.head x.lanes) j given None at)
              ∙ given_at-get x.head.mask shown first count j within in
              stands_so x.head.mask shown (lane_on_bus (2 ^ w) x.head.address x.head.size j) (first + j) given is
              (lane_in_window w x.head.address x.head.size j below);
        } in
        subst (λ (z : AskBeat). IsBeatOf (2 ^ w) (ask_of (2 ^ w) None x.head x.lanes) b z) last.1 here

long_spells : (w : ℕ) (b : AskBegun) (beats : List AskBeat) (x : AskBeat) → Gathered w (Some b) beats
    → FitsAsk (2 ^ w) (Some b.first) x.head → length x.lanes ≡ 2 ^ w
    → Goes w b.beats b.bytes b.spoiled x.head x.lanes → b.beats + 1 ≡ ask_beats (2 ^ w) x.head
    → SpellsAskOnBus (2 ^ w) (ask_of (2 ^ w) (Some b) x.head x.lanes) (beats ++ x ∷ [])
long_spells w b beats x g fits wide is ends = record {
  count = omega (arith, length-append beats (x ∷ []), g.counted, ends) ∙ carries_of (2 ^ w) x.head fits.formed;
  each = λ k y found.
      let there = any k y (slice_get-push beats x y k found) in record {
        fields = fields_of (2 ^ w) x.head y.head (b.bytes ++ ask_part (2 ^ w) x.head x.lanes) fits.formed there.1;
        mask = mask_of (2 ^ w) x.head y.head there.0 there.1;
        flag = flag_of (2 ^ w) x.head y.head there.0 there.1;
        marks = λ j mark at row.
            let at_lanes : slice_get (b.spoiled ++ all_marks x.head x.lanes) j ≡ Some mark = rw is.marks at in
            let in_row : slice_get (beats ++ x ∷ []) (j / 2 ^ w) ≡ Some y = rw row found in
            more_marks w b.spoiled beats x g.marked wide g.marks j mark y at_lanes in_row;
        bytes = λ j given at row.
            let at_lanes : slice_get (b.bytes ++ all_shown x.head x.lanes) j ≡ Some given = rw is.part at in
            let in_row : slice_get (beats ++ x ∷ []) (j / 2 ^ w) ≡ Some y = rw row found in
            stands_so y.head.mask (shown_lanes (2 ^ w) y.head y.lanes) (lane_on_bus (2 ^ w) x.head.address x.head.size j) (j % 2 ^ w) given
            (more_bytes w b.bytes beats x g.filled wide g.stand j given y at_lanes in_row)
            (lane_wide w x.head.address x.head.size j is.long_is.wide);
      };
}
  where
    any : (k : ℕ) (y : AskBeat) → (slice_get beats k ≡ Some y) ⊎ ((k ≡ length beats) × (x ≡ y))
        → IsFormed (2 ^ w) y.head × SameFields x.head y.head
    any k y (inl before) = let there = g.each k y before in
        (there.0, between b.first x.head y.head (fits.same b.first refl) (there.1 b.first refl))
    any k y (inr last) = subst (λ (z : AskBeat). IsFormed (2 ^ w) z.head × SameFields x.head z.head) last.1 (fits.formed, itself x.head)

pub spelled_end : (w : ℕ) (begun : Option AskBegun) (beats : List AskBeat) (x : AskBeat) → Gathered w begun beats
    → FitsAsk (2 ^ w) (first_ask begun) x.head → length x.lanes ≡ 2 ^ w
    → ends_ask (2 ^ w) begun x.head ≡ true → IsSpelled (2 ^ w) (ask_of (2 ^ w) begun x.head x.lanes, beats ++ x ∷ [])
spelled_end w None beats x g fits wide ends =
    let alone : ask_beats (2 ^ w) x.head ≡ 1 = sym (eqb-true 1 (ask_beats (2 ^ w) x.head) ends) in
    let P : List AskBeat → Type 0 = λ bs. IsSpelled (2 ^ w) (ask_of (2 ^ w) None x.head x.lanes, bs ++ x ∷ []) in
    let lawful : IsLawfulSent (ask_of (2 ^ w) None x.head x.lanes) = record {
      lawful = one_is_lawful w x.head x.lanes fits.formed alone;
      marked = marks_of_part (2 ^ w) x.head x.lanes;
    } in
    subst P (sym (g.empty refl)) (lawful, one_spells w x fits alone)
spelled_end w (Some b) beats x g fits wide ends =
    let some : ask_begun (Some b.first) b.beats b.bytes b.spoiled ≡ None → ⊥ = (λ e. absurd (cc)) in
    let is = goes w (Some b.first) b.beats b.bytes b.spoiled x.head x.lanes g.kept fits wide some in
    let last : b.beats + 1 ≡ ask_beats (2 ^ w) x.head = eqb-true (b.beats + 1) (ask_beats (2 ^ w) x.head) ends in
    let lawful : IsLawfulSent (ask_of (2 ^ w) (Some b) x.head x.lanes) = record {
      lawful = rw (← is.part) (ended_is_lawful w b.beats b.bytes b.spoiled x.head x.lanes fits.formed is last);
      marked = rw (← is.part, ← is.marks) (more_marked w b.beats b.bytes b.spoiled x.head x.lanes is);
    } in
    (lawful, long_spells w b beats x g fits wide is last)

-- ---- all beats of a channel

pub gathered_past : (w : ℕ) (past : List AskBeat) → AreFitting (2 ^ w) past → Gathered w (asking (2 ^ w) past) (begun (2 ^ w) past)
gathered_past w [] fitting = nothing_gathered w
gathered_past w (x ∷ past) fitting = go (gathered_past w past fitting.0) (ends_ask (2 ^ w) (asking (2 ^ w) past) x.head) refl
  where
    go : Gathered w (asking (2 ^ w) past) (begun (2 ^ w) past) → (ends : Bool) → ends_ask (2 ^ w) (asking (2 ^ w) past) x.head ≡ ends
        → Gathered w (ask_after (2 ^ w) (asking (2 ^ w) past) x.head x.lanes) (if ends then [] else begun (2 ^ w) past ++ x ∷ [])
    go before true is = rw is (nothing_gathered w)
    go before false is = gathered_after w (asking (2 ^ w) past) (begun (2 ^ w) past) x before fitting.1 fitting.2 is

all_more : {X : Type 0} (P : X → Type 0) (xs : List X) (x : X) → AllByRecursion P xs → P x → AllByRecursion P (xs ++ x ∷ [])
all_more P [] x all last = (last, tt)
all_more P (y ∷ xs) x all last = (all.0, all_more P xs x all.1 last)

all_spelled : (w : ℕ) (past : List AskBeat) → AreFitting (2 ^ w) past → AllByRecursion (IsSpelled (2 ^ w)) (ended_asks (2 ^ w) past)
all_spelled w [] fitting = tt
all_spelled w (x ∷ past) fitting = go (all_spelled w past fitting.0) (ends_ask (2 ^ w) (asking (2 ^ w) past) x.head) refl
  where
    go : AllByRecursion (IsSpelled (2 ^ w)) (ended_asks (2 ^ w) past) → (ends : Bool) → ends_ask (2 ^ w) (asking (2 ^ w) past) x.head ≡ ends
        → AllByRecursion (IsSpelled (2 ^ w))
        (if ends then ended_asks (2 ^ w) past ++ (
          ask_of (2 ^ w) (asking (2 ^ w) past) x.head x.lanes,
          begun (2 ^ w) past ++ x ∷ [],
        ) ∷ [] else ended_asks (2 ^ w) past)
    go before true is =
        all_more (IsSpelled (2 ^ w)) (ended_asks (2 ^ w) past) (
          ask_of (2 ^ w) (asking (2 ^ w) past) x.head x.lanes,
          begun (2 ^ w) past ++ x ∷ [],
        ) before
        (spelled_end w (asking (2 ^ w) past) (begun (2 ^ w) past) x (gathered_past w past fitting.0) fitting.1 fitting.2 is)
    go before false is = before

pub spelled : AskIsSpelled
spelled bus past fitting = all_spelled (bus_log bus) past fitting

pub flat_more : {X Y : Type 0} (f : X → List Y) (xs : List X) (x : X) → flat_map f (xs ++ x ∷ []) ≡ flat_map f xs ++ f x
flat_more f [] x = append-nil (f x)
flat_more f (y ∷ ys) x = ap (λ r. f y ++ r) (flat_more f ys x) ∙ sym (append_assoc (f y) (flat_map f ys) (f x))

cut_more : (bus : ℕ) (past : List AskBeat) (x : AskBeat) (ends : Bool)
    → channel past ≡ flat_map (λ (entry : Sent × List AskBeat). entry.1) (ended_asks bus past) ++ begun bus past
    → channel past ++ x ∷ []
    ≡ flat_map (λ (entry : Sent × List AskBeat). entry.1)
    (if ends then ended_asks bus past ++ (ask_of bus (asking bus past) x.head x.lanes, begun bus past ++ x ∷ []) ∷ [] else ended_asks bus past)
    ++ (if ends then [] else begun bus past ++ x ∷ [])
cut_more bus past x true before =
    let f : Sent × List AskBeat → List AskBeat = λ (entry : Sent × List AskBeat). entry.1 in
    ap (λ (c : List AskBeat). c ++ x ∷ []) before ∙ append_assoc (flat_map f (ended_asks bus past)) (begun bus past) (x ∷ [])
    ∙ sym (flat_more f (ended_asks bus past) (ask_of bus (asking bus past) x.head x.lanes, begun bus past ++ x ∷ [])) ∙ sym (append-nil _)
cut_more bus past x false before =
    let f : Sent × List AskBeat → List AskBeat = λ (entry : Sent × List AskBeat). entry.1 in
    ap (λ (c : List AskBeat). c ++ x ∷ []) before ∙ append_assoc (flat_map f (ended_asks bus past)) (begun bus past) (x ∷ [])

pub cut_up : ChannelIsCutUp
cut_up bus [] = refl
cut_up bus (x ∷ past) = cut_more bus past x (ends_ask bus (asking bus past) x.head) (cut_up bus past)
