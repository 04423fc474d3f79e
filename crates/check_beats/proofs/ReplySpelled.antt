-- What all beats of a reply spell is the reply that is gathered from them.
use Rattle.std.proofs.Common.{◌≡◌, ◌∙◌, ℕ, ◌+◌, ◌*◌, ◌/◌, ◌^◌, ◌%◌, ◌<◌, ◌⊎◌, inl, inr, min, Bool, true, false, if◌then◌else◌, List, [], ◌∷◌, ◌++◌, length, replicate, Option, Some, None, slice_get, ap, sym, subst, refl, arith, eqb-true, length-append}
use Rattle.std.specs.List.{AllByRecursion}
use Rattle.std.proofs.lemmas.Option.{slice_get_within, get_or_from_slice_get}
use Rattle.std.proofs.lemmas.List.{get_or-replicate, length-replicate}
use Rattle.tl_types.proofs.Lists.{slice_get-push}
use Rattle.tl_types.specs.Operation.{reply_carries_bytes, reply_byte_count}
use Rattle.tl_types.specs.Wire.{reply_opcode_of}
use Rattle.check_beats.specs.Bus.{low, lane_on_bus, beat_count_on_bus, bus_log}
use Rattle.check_beats.specs.Form.{IsFormedReply, FitsReply, SameReplyFields, IsRightMark}
use Rattle.check_beats.specs.Message.{reply_op_of_number, is_spoiled, byte_at, seen_cells, reply_part, spoiled_part, reply_beats}
use Rattle.check_beats.specs.State.{ReplyBegun, reply_begun, first_reply, replied_beats, replied_bytes, replied_spoiled, ends_reply, reply_of, reply_after}
use Rattle.check_beats.specs.Begun.{IsReplyKept}
use Rattle.check_beats.specs.Spelling.{ReplyBeat, StandsAt, HasReplyFieldsOf, IsReplyBeatOf, SpellsReplyOnBus, IsLawfulPattern}
use Rattle.check_beats.specs.Laws.{replying, AreFittingReplies, begun_reply, ended_replies, IsReplySpelled, ReplyIsSpelled}
use Rattle.check_beats.specs.declared.beat.ReplyHead.{ReplyHead}
use Rattle.check_beats.proofs.Window.{lane_wide, lane_in_window, some_count}
use Rattle.check_beats.proofs.Standing.{Stand, none_stand, more_stand}
use Rattle.check_beats.proofs.Spelled.{byte_stands}
use Rattle.check_beats.proofs.Seen.{reply_op_named, reply_carries_named, length-seen_at, byte_by, seen_in, seen_at-get}
use Rattle.check_beats.proofs.Returning.{Returns, returns, reply_kept_on, reply_on_is, ended_reply_is_lawful, one_reply_is_lawful, reply_kept_first, reply_first_is}

-- what is seen at a lane of a beat, and whether its bytes are spoiled
abbrev pub seen_there : ReplyBeat → ℕ → Option ℕ
seen_there x lane = seen_in x.head x.known x.lanes lane

abbrev pub spoiled_there : ReplyBeat → ℕ → Bool
spoiled_there x lane = is_spoiled x.head

-- the bytes of a beat more, and their marks
more_seen : (w : ℕ) (bytes : List (Option ℕ)) (beats : List ReplyBeat) (x : ReplyBeat) → length bytes ≡ length beats * 2 ^ w
    → length x.lanes ≡ 2 ^ w → Stand seen_there w bytes beats
    → Stand seen_there w (bytes ++ seen_cells x.head x.known x.lanes 0 (length x.lanes)) (beats ++ x ∷ [])
more_seen w bytes beats x counted wide stand =
    more_stand seen_there w None bytes (seen_cells x.head x.known x.lanes 0 (length x.lanes)) beats x counted
    (λ i lane.
    let none : 0 + i ≡ i = omega arith in
    seen_at-get x.head x.known x.lanes 0 (length x.lanes) i (omega (arith, lane, wide)) ∙ ap (λ n. seen_there x n) none) stand

more_marks : (w : ℕ) (spoiled : List Bool) (beats : List ReplyBeat) (x : ReplyBeat) → length spoiled ≡ length beats * 2 ^ w
    → length x.lanes ≡ 2 ^ w → Stand spoiled_there w spoiled beats
    → Stand spoiled_there w (spoiled ++ replicate (length x.lanes) (is_spoiled x.head)) (beats ++ x ∷ [])
more_marks w spoiled beats x counted wide stand =
    more_stand spoiled_there w false spoiled (replicate (length x.lanes) (is_spoiled x.head)) beats x counted
    (λ i lane. get_or-replicate (length x.lanes) i (is_spoiled x.head) false (omega (arith, lane, wide))) stand

-- ---- what is kept is what the beats say

pub record GatheredReply (w : ℕ) (begun : Option ReplyBegun) (beats : List ReplyBeat) : Type 0 where
  pub kept : IsReplyKept (2 ^ w) begun
  pub empty : begun ≡ None → beats ≡ []
  pub counted : length beats ≡ replied_beats begun
  pub filled : length (replied_bytes begun) ≡ length beats * 2 ^ w
  pub each : (k : ℕ) (x : ReplyBeat) → slice_get beats k ≡ Some x
      → IsFormedReply x.head × ((h : ReplyHead) → first_reply begun ≡ Some h → SameReplyFields h x.head)
  pub marked : length (replied_spoiled begun) ≡ length beats * 2 ^ w
  pub stand : Stand seen_there w (replied_bytes begun) beats
  pub marks : Stand spoiled_there w (replied_spoiled begun) beats

pub itself : (a : ReplyHead) → SameReplyFields a a
itself a = record { opcode = refl; param = refl; size = refl; source = refl; denied = refl }

between : (h a b : ReplyHead) → SameReplyFields h a → SameReplyFields h b → SameReplyFields a b
between h a b p q = record {
  opcode = q.opcode ∙ sym p.opcode;
  param = q.param ∙ sym p.param;
  size = q.size ∙ sym p.size;
  source = q.source ∙ sym p.source;
  denied = q.denied ∙ sym p.denied;
}

nothing_gathered : (w : ℕ) → GatheredReply w None []
nothing_gathered w = record {
  kept = record { of = λ b at. absurd (cc) };
  empty = λ e. refl;
  counted = refl;
  filled = omega arith;
  each = λ k x at. absurd (cc);
  marked = omega arith;
  stand = none_stand seen_there w;
  marks = none_stand spoiled_there w;
}

first_gathered : (w : ℕ) (x : ReplyBeat) → FitsReply None x.head → length x.lanes ≡ 2 ^ w → ends_reply (2 ^ w) None x.head ≡ false
    → GatheredReply w
    (Some (record {
      first = x.head;
      beats = 1;
      bytes = seen_cells x.head x.known x.lanes 0 (length x.lanes);
      spoiled = replicate (length x.lanes) (is_spoiled x.head);
    }))
    ([] ++ x ∷ [])
first_gathered w x fits wide goes_on = record {
  kept = reply_kept_first w x.head x.known x.lanes fits wide goes_on;
  empty = λ e. absurd (cc);
  counted = refl;
  filled = length-seen_at x.head x.known x.lanes 0 (length x.lanes) ∙ wide ∙ omega arith;
  each = λ k y at. only k y (slice_get-push [] x y k at);
  marked = length-replicate (length x.lanes) (is_spoiled x.head) ∙ wide ∙ omega arith;
  stand = more_seen w [] [] x (omega arith) wide (none_stand seen_there w);
  marks = more_marks w [] [] x (omega arith) wide (none_stand spoiled_there w);
}
  where
    only : (k : ℕ) (y : ReplyBeat) → (slice_get [] k ≡ Some y) ⊎ ((k ≡ 0) × (x ≡ y))
        → IsFormedReply y.head × ((h : ReplyHead) → Some x.head ≡ Some h → SameReplyFields h y.head)
    only k y (inl never) = absurd (cc)
    only k y (inr last) =
        let P : ReplyBeat → Type 0 = λ z. IsFormedReply z.head × ((h : ReplyHead) → Some x.head ≡ Some h → SameReplyFields h z.head) in
        subst P last.1 (
          fits.formed,
          (λ h e. let same : x.head ≡ h = cc in
              subst (λ (a : ReplyHead). SameReplyFields a x.head) same (itself x.head)),
        )

pub next_gathered : (w : ℕ) (b : ReplyBegun) (beats : List ReplyBeat) (x : ReplyBeat) → GatheredReply w (Some b) beats
    → FitsReply (Some b.first) x.head → length x.lanes ≡ 2 ^ w
    → ends_reply (2 ^ w) (Some b) x.head ≡ false
    → GatheredReply w
    (Some (record {
      first = b.first;
      beats = b.beats + 1;
      bytes = b.bytes ++ seen_cells x.head x.known x.lanes 0 (length x.lanes);
      spoiled = b.spoiled ++ replicate (length x.lanes) (is_spoiled x.head);
    })) (beats ++ x ∷ [])
next_gathered w b beats x g fits wide goes_on =
    let some : reply_begun (Some b.first) b.beats b.bytes b.spoiled ≡ None → ⊥ = (λ e. absurd (cc)) in
    let is = returns w (Some b.first) b.beats b.bytes b.spoiled x.head x.known x.lanes g.kept fits wide some in
    let counted : length (beats ++ x ∷ []) ≡ b.beats + 1 = omega (arith, length-append beats (x ∷ []), g.counted) in
    record {
      kept = reply_kept_on w (Some b.first) b.beats b.bytes b.spoiled x.head x.known x.lanes g.kept fits some is goes_on;
      empty = λ e. absurd (cc);
      counted = counted;
      filled = length-append b.bytes (seen_cells x.head x.known x.lanes 0 (length x.lanes))
          ∙ ap (λ n. length b.bytes + n) (length-seen_at x.head x.known x.lanes 0 (length x.lanes))
          ∙ is.total ∙ ap (λ n. n * 2 ^ w) (sym counted);
      each = λ k y at. any k y (slice_get-push beats x y k at);
      marked = length-append b.spoiled (replicate (length x.lanes) (is_spoiled x.head))
          ∙ ap (λ n. length b.spoiled + n) (length-replicate (length x.lanes) (is_spoiled x.head))
          ∙ ap (λ n. n + length x.lanes) is.marked ∙ is.total ∙ ap (λ n. n * 2 ^ w) (sym counted);
      stand = more_seen w b.bytes beats x g.filled wide g.stand;
      marks = more_marks w b.spoiled beats x g.marked wide g.marks;
    }
  where
    any : (k : ℕ) (y : ReplyBeat) → (slice_get beats k ≡ Some y) ⊎ ((k ≡ length beats) × (x ≡ y))
        → IsFormedReply y.head × ((h : ReplyHead) → Some b.first ≡ Some h → SameReplyFields h y.head)
    any k y (inl before) = g.each k y before
    any k y (inr last) =
        let P : ReplyBeat → Type 0 = λ z. IsFormedReply z.head × ((h : ReplyHead) → Some b.first ≡ Some h → SameReplyFields h z.head) in
        subst P last.1 (fits.formed, fits.same)

gathered_after : (w : ℕ) (begun : Option ReplyBegun) (beats : List ReplyBeat) (x : ReplyBeat)
    → GatheredReply w begun beats → FitsReply (first_reply begun) x.head → length x.lanes ≡ 2 ^ w
    → ends_reply (2 ^ w) begun x.head ≡ false → GatheredReply w (reply_after (2 ^ w) begun x.head x.known x.lanes) (beats ++ x ∷ [])
gathered_after w None beats x g fits wide goes_on =
    let P : List ReplyBeat → Type 0 = λ bs. GatheredReply w (reply_after (2 ^ w) None x.head x.known x.lanes) (bs ++ x ∷ []) in
    let Q : Option ReplyBegun → Type 0 = λ o. GatheredReply w o ([] ++ x ∷ []) in
    subst P (sym (g.empty refl)) (subst Q (reply_first_is w x.head x.known x.lanes wide goes_on) (first_gathered w x fits wide goes_on))
gathered_after w (Some b) beats x g fits wide goes_on =
    let some : reply_begun (Some b.first) b.beats b.bytes b.spoiled ≡ None → ⊥ = (λ e. absurd (cc)) in
    let is = returns w (Some b.first) b.beats b.bytes b.spoiled x.head x.known x.lanes g.kept fits wide some in
    let Q : Option ReplyBegun → Type 0 = λ o. GatheredReply w o (beats ++ x ∷ []) in
    subst Q (reply_on_is w (Some b.first) b.beats b.bytes b.spoiled x.head x.known x.lanes wide some goes_on)
    (next_gathered w b beats x g fits wide goes_on)

-- ---- the last beat

fields_of : (x y : ReplyHead) (bytes : List (Option ℕ)) (spoiled : List Bool) → IsFormedReply x → SameReplyFields x y
    → HasReplyFieldsOf
    (record {
      op = reply_op_of_number x.opcode;
      size = x.size;
      source = x.source;
      denied = Some x.denied;
      bytes = bytes;
      spoiled = spoiled;
    }) y
fields_of x y bytes spoiled formed same =
    let named : reply_op_of_number x.opcode ≡ formed.op = reply_op_named formed.op x.opcode formed.code in
    record {
      opcode = same.opcode ∙ sym formed.code ∙ ap reply_opcode_of (sym named);
      param = same.param ∙ formed.param;
      size = same.size;
      source = same.source;
      denied = ap (λ (d : Bool). Some d) (sym same.denied);
    }

flag_of : (x y : ReplyHead) → IsFormedReply y → SameReplyFields x y → IsRightMark (reply_op_of_number x.opcode) y.denied y.corrupt
flag_of x y formed same =
    let named : reply_op_of_number x.opcode ≡ formed.op = rw (← same.opcode) (reply_op_named formed.op y.opcode formed.code) in
    rw named formed.flag

stands_so : (beat : ReplyHead) (known : ℕ) (lanes : List ℕ) (lane place : ℕ) (byte : Option ℕ) → beat.denied ≡ false
    → beat.corrupt ≡ false → byte ≡ seen_in beat known lanes place → lane ≡ place → StandsAt known lanes lane byte
stands_so beat known lanes lane place byte plain clean is at =
    let there = byte_at known lanes place in
    let here : byte ≡ there =
    is ∙ ap (λ d. byte_by d beat.corrupt there) plain ∙ ap (λ c. byte_by false c there) clean in
    subst (λ (l : ℕ). StandsAt known lanes l byte) (sym at)
    (subst (λ (b : Option ℕ). StandsAt known lanes place b) (sym here) (byte_stands known lanes place))

carries_of : (bus : ℕ) (x : ReplyHead) → IsFormedReply x
    → reply_beats bus x ≡ beat_count_on_bus bus (reply_carries_bytes (reply_op_of_number x.opcode)) x.size
carries_of bus x formed =
    let named : reply_op_of_number x.opcode ≡ formed.op = reply_op_named formed.op x.opcode formed.code in
    ap (λ b. beat_count_on_bus bus b x.size) (reply_carries_named formed.op x.opcode formed.code ∙ ap reply_carries_bytes (sym named))

one_spells : (w address : ℕ) (x : ReplyBeat) → FitsReply None x.head → reply_beats (2 ^ w) x.head ≡ 1
    → SpellsReplyOnBus (2 ^ w) (reply_of (2 ^ w) None address x.head x.known x.lanes) address ([] ++ x ∷ [])
one_spells w address x fits alone = record {
  count = sym alone ∙ carries_of (2 ^ w) x.head fits.formed;
  each = λ b y at. only b y (slice_get-push [] x y b at);
}
  where
    only : (b : ℕ) (y : ReplyBeat) → (slice_get [] b ≡ Some y) ⊎ ((b ≡ 0) × (x ≡ y))
        → IsReplyBeatOf (2 ^ w) (reply_of (2 ^ w) None address x.head x.known x.lanes) address b y
    only b y (inl never) = absurd (cc)
    only b y (inr last) =
        let op = reply_op_of_number x.head.opcode in
        let first = low address x.head.size % 2 ^ w in
        let count = min (2 ^ w) (reply_byte_count op x.head.size) in
        let here : IsReplyBeatOf (2 ^ w) (reply_of (2 ^ w) None address x.head x.known x.lanes) address b x = record {
          fields = fields_of x.head x.head (reply_part (2 ^ w) address x.head x.known x.lanes) (spoiled_part (2 ^ w) x.head) fits.formed (itself x.head);
          corrupt = flag_of x.head x.head fits.formed (itself x.head);
          marks = λ j mark at row.
              let within : j < count = omega (arith, slice_get_within (spoiled_part (2 ^ w) x.head) j mark at, length-replicate count (is_spoiled x.head)) in
              sym (get_or_from_slice_get (spoiled_part (2 ^ w) x.head) j mark false at) ∙ get_or-replicate count j (is_spoiled x.head) false within;
          bytes = λ plain clean j byte at row.
              let within : j < count =
              rw (← length-seen_at x.head x.known x.lanes first count)
              (slice_get_within (reply_part (2 ^ w) address x.head x.known x.lanes) j byte at) in
              let below : j < min (2 ^ w) (2 ^ x.head.size) = omega (arith, within, some_count x.head.size (reply_carries_bytes op)) in
              let is : byte ≡ seen_in x.head x.known x.lanes (first + j) =
              sym (get_or_from_slice_get (reply_part (2 ^ w) address x.head x.known x.lanes) j byte None at)
              ∙ seen_at-get x.head x.known x.lanes first count j within in
              stands_so x.head x.known x.lanes (lane_on_bus (2 ^ w) address x.head.size j) (first + j) byte plain clean is
              (lane_in_window w address x.head.size j below);
        } in
        subst (λ (z : ReplyBeat). IsReplyBeatOf (2 ^ w) (reply_of (2 ^ w) None address x.head x.known x.lanes) address b z) last.1 here

long_spells : (w address : ℕ) (b : ReplyBegun) (beats : List ReplyBeat) (x : ReplyBeat)
    → GatheredReply w (Some b) beats → FitsReply (Some b.first) x.head → length x.lanes ≡ 2 ^ w
    → Returns w b.beats b.bytes b.spoiled x.head x.known x.lanes → b.beats + 1 ≡ reply_beats (2 ^ w) x.head
    → SpellsReplyOnBus (2 ^ w) (reply_of (2 ^ w) (Some b) address x.head x.known x.lanes) address (beats ++ x ∷ [])
long_spells w address b beats x g fits wide is ends = record {
  count = omega (arith, length-append beats (x ∷ []), g.counted, ends) ∙ carries_of (2 ^ w) x.head fits.formed;
  each = λ k y found.
      let there = any k y (slice_get-push beats x y k found) in record {
        fields = fields_of x.head y.head (b.bytes ++ reply_part (2 ^ w) address x.head x.known x.lanes) (b.spoiled ++ spoiled_part (2 ^ w) x.head)
            fits.formed there.1;
        corrupt = flag_of x.head y.head there.0 there.1;
        marks = λ j mark at row.
            let at_lanes : slice_get (b.spoiled ++ replicate (length x.lanes) (is_spoiled x.head)) j ≡ Some mark = rw (is.marks) at in
            let in_row : slice_get (beats ++ x ∷ []) (j / 2 ^ w) ≡ Some y = rw row found in
            more_marks w b.spoiled beats x g.marked wide g.marks j mark y at_lanes in_row;
        bytes = λ plain clean j byte at row.
            let at_lanes : slice_get (b.bytes ++ seen_cells x.head x.known x.lanes 0 (length x.lanes)) j
            ≡ Some byte = rw (is.part address) at in
            let in_row : slice_get (beats ++ x ∷ []) (j / 2 ^ w) ≡ Some y = rw row found in
            stands_so y.head y.known y.lanes (lane_on_bus (2 ^ w) address x.head.size j) (j % 2 ^ w) byte plain clean
            (more_seen w b.bytes beats x g.filled wide g.stand j byte y at_lanes in_row)
            (lane_wide w address x.head.size j is.long_is.wide);
      };
}
  where
    any : (k : ℕ) (y : ReplyBeat) → (slice_get beats k ≡ Some y) ⊎ ((k ≡ length beats) × (x ≡ y))
        → IsFormedReply y.head × SameReplyFields x.head y.head
    any k y (inl before) = let there = g.each k y before in
        (there.0, between b.first x.head y.head (fits.same b.first refl) (there.1 b.first refl))
    any k y (inr last) = subst (λ (z : ReplyBeat). IsFormedReply z.head × SameReplyFields x.head z.head) last.1 (fits.formed, itself x.head)

pub spelled_end : (w : ℕ) (begun : Option ReplyBegun) (beats : List ReplyBeat) (x : ReplyBeat)
    → GatheredReply w begun beats → FitsReply (first_reply begun) x.head → length x.lanes ≡ 2 ^ w
    → ends_reply (2 ^ w) begun x.head ≡ true
    → IsReplySpelled (2 ^ w) ((λ address. reply_of (2 ^ w) begun address x.head x.known x.lanes), beats ++ x ∷ [])
spelled_end w None beats x g fits wide ends =
    let alone : reply_beats (2 ^ w) x.head ≡ 1 = sym (eqb-true 1 (reply_beats (2 ^ w) x.head) ends) in
    let P : List ReplyBeat → Type 0 =
    λ bs. IsReplySpelled (2 ^ w) (
      (λ address. reply_of (2 ^ w) None address x.head x.known x.lanes),
      bs ++ x ∷ [],
    ) in
    subst P (sym (g.empty refl))
    (λ address. (
      one_reply_is_lawful w address x.head x.known x.lanes fits.formed alone,
      one_spells w address x fits alone,
    ))
spelled_end w (Some b) beats x g fits wide ends =
    let some : reply_begun (Some b.first) b.beats b.bytes b.spoiled ≡ None → ⊥ = (λ e. absurd (cc)) in
    let is = returns w (Some b.first) b.beats b.bytes b.spoiled x.head x.known x.lanes g.kept fits wide some in
    let last : b.beats + 1 ≡ reply_beats (2 ^ w) x.head = eqb-true (b.beats + 1) (reply_beats (2 ^ w) x.head) ends in
    λ address.
    let lawful : IsLawfulPattern (reply_of (2 ^ w) (Some b) address x.head x.known x.lanes) =
    rw (← is.part address, ← is.marks) (ended_reply_is_lawful w b.beats x.head.source b.bytes b.spoiled x.head x.known x.lanes fits.formed is last) in
    (lawful, long_spells w address b beats x g fits wide is last)

-- ---- all beats of a channel

pub gathered_past : (w : ℕ) (past : List ReplyBeat) → AreFittingReplies (2 ^ w) past
    → GatheredReply w (replying (2 ^ w) past) (begun_reply (2 ^ w) past)
gathered_past w [] fitting = nothing_gathered w
gathered_past w (x ∷ past) fitting = go (gathered_past w past fitting.0) (ends_reply (2 ^ w) (replying (2 ^ w) past) x.head) refl
  where
    go : GatheredReply w (replying (2 ^ w) past) (begun_reply (2 ^ w) past) → (ends : Bool)
        → ends_reply (2 ^ w) (replying (2 ^ w) past) x.head ≡ ends
        → GatheredReply w (reply_after (2 ^ w) (replying (2 ^ w) past) x.head x.known x.lanes)
        (if ends then [] else begun_reply (2 ^ w) past ++ x ∷ [])
    go before true is = rw is (nothing_gathered w)
    go before false is = gathered_after w (replying (2 ^ w) past) (begun_reply (2 ^ w) past) x before fitting.1 fitting.2 is

all_more : {X : Type 0} (P : X → Type 0) (xs : List X) (x : X) → AllByRecursion P xs → P x → AllByRecursion P (xs ++ x ∷ [])
all_more P [] x all last = (last, tt)
all_more P (y ∷ xs) x all last = (all.0, all_more P xs x all.1 last)

all_spelled : (w : ℕ) (past : List ReplyBeat) → AreFittingReplies (2 ^ w) past
    → AllByRecursion (IsReplySpelled (2 ^ w)) (ended_replies (2 ^ w) past)
all_spelled w [] fitting = tt
all_spelled w (x ∷ past) fitting = go (all_spelled w past fitting.0) (ends_reply (2 ^ w) (replying (2 ^ w) past) x.head) refl
  where
    go : AllByRecursion (IsReplySpelled (2 ^ w)) (ended_replies (2 ^ w) past) → (ends : Bool)
        → ends_reply (2 ^ w) (replying (2 ^ w) past) x.head ≡ ends
        → AllByRecursion (IsReplySpelled (2 ^ w))
        (if ends then ended_replies (2 ^ w) past ++ (
          (λ address. reply_of (2 ^ w) (replying (2 ^ w) past) address x.head x.known x.lanes),
          begun_reply (2 ^ w) past ++ x ∷ [],
        ) ∷ [] else ended_replies (2 ^ w) past)
    go before true is =
        all_more (IsReplySpelled (2 ^ w)) (ended_replies (2 ^ w) past) (
          (λ address. reply_of (2 ^ w) (replying (2 ^ w) past) address x.head x.known x.lanes),
          begun_reply (2 ^ w) past ++ x ∷ [],
        ) before
        (spelled_end w (replying (2 ^ w) past) (begun_reply (2 ^ w) past) x (gathered_past w past fitting.0) fitting.1 fitting.2 is)
    go before false is = before

pub replies_spelled : ReplyIsSpelled
replies_spelled bus past fitting = all_spelled (bus_log bus) past fitting
