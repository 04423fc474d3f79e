-- The reply that beats spell is the one that they tell, and so is each byte of it.
use Rattle.std.proofs.Common.{◌≡◌, ◌∙◌, ℕ, ◌+◌, ◌/◌, ◌%◌, ◌<◌, Bool, true, false, if◌then◌else◌, List, [], ◌∷◌, length, Some, slice_get, slice_index, get_or, ap, sym, refl, arith}
use Rattle.std.proofs.lemmas.List.FromFn.{fill_by_all}
use Rattle.std.proofs.lemmas.Option.{slice_get-get_or}
use Rattle.tl_types.specs.Response.{Response, IsLawfulResponse}
use Rattle.tl_types.specs.Operation.{reply_carries_bytes, reply_byte_count}
use Rattle.tl_types.specs.Wire.{reply_opcode_of}
use Rattle.tl_beats.specs.Beats.{lane_of, low}
use Rattle.tl_beats.specs.Replies.{SpellsReply}
use Rattle.tl_beats.specs.Told.{reply_op_at, no_beat, told_byte, told_reply}
use Rattle.tl_beats.specs.declared.beat.DBeat.{DBeat}
use Rattle.tl_types.specs.declared.operation.ReplyOp.{ReplyOp}
use Rattle.tl_beats.proofs.Codes.{reply_op_at-code, same_reply_op}
use Rattle.tl_beats.proofs.Only.{some_beat, beat_of_byte}

-- a reply that beats spell has a first beat
pub first_spelled : (reply : Response) (address : ℕ) (beats : List DBeat) → SpellsReply reply address beats
    → 0 < length beats
first_spelled reply address beats spells =
    omega (arith, spells.count, some_beat (reply_carries_bytes reply.op) reply.size)

-- how many bytes it has
pub count_is : (reply : Response) (address : ℕ) (beats : List DBeat) (first : DBeat) (op : ReplyOp)
    → slice_get beats 0 ≡ Some first → IsLawfulResponse reply.op reply.size reply.denied reply.bytes
    → SpellsReply reply address beats
    → reply_opcode_of op ≡ first.opcode → length reply.bytes ≡ reply_byte_count op first.size
count_is reply address beats first op head lawful spells code =
    let fields = (spells.each 0 first head).fields in
    let same : reply.op ≡ op = same_reply_op reply.op op first.opcode (sym fields.opcode) code in
    lawful.counted ∙ (ap (λ (o : ReplyOp). reply_byte_count o reply.size) same
    ∙ ap (λ (s : ℕ). reply_byte_count op s) (sym fields.size))

-- a byte of the reply is in one of the beats
pub in_beats : (reply : Response) (address : ℕ) (beats : List DBeat)
    → IsLawfulResponse reply.op reply.size reply.denied reply.bytes → SpellsReply reply address beats → (j : ℕ)
    → j < length reply.bytes → j / 8 < length beats
in_beats reply address beats lawful spells j h =
    rw spells.count (beat_of_byte (reply_carries_bytes reply.op) reply.size j (rw lawful.counted at h))

module _ (reply : Response) (address : ℕ) (first : DBeat) (rest : List DBeat)
    (lawful : IsLawfulResponse reply.op reply.size reply.denied reply.bytes)
    (spells : SpellsReply reply address (first ∷ rest)) where
  abbrev beats : List DBeat
  beats = first ∷ rest

  op_is : reply_op_at first.opcode ≡ reply.op
  op_is = ap reply_op_at (spells.each 0 first refl).fields.opcode ∙ reply_op_at-code reply.op

  byte_is : (j : ℕ) → j < length reply.bytes → (is_denied : Bool) → reply.denied ≡ is_denied
      → get_or reply.bytes j 0 ≡ (if is_denied then 0 else slice_index (get_or beats (j / 8) no_beat).lanes
      (lane_of address reply.size j))
  byte_is j h true is = lawful.clean is j 0 h
  byte_is j h false is =
      let beat = get_or beats (j / 8) no_beat in
      let at : slice_get beats (j / 8) ≡ Some beat =
      slice_get-get_or beats (j / 8) no_beat (in_beats reply address beats lawful spells j h) in
      sym ((spells.each (j / 8) beat at).bytes is j (get_or reply.bytes j 0) (slice_get-get_or reply.bytes j 0 h) refl)

  pub told_at : (j : ℕ) → j < length reply.bytes → get_or reply.bytes j 0 ≡ told_byte beats address first j
  told_at j h =
      let fields = (spells.each 0 first refl).fields in
      byte_is j h reply.denied refl
      ∙ (ap (λ (d : Bool). if d then 0 else slice_index (get_or beats (j / 8) no_beat).lanes
      (lane_of address reply.size j)) (sym fields.denied)
      ∙ ap (λ (s : ℕ). if first.denied then 0 else slice_index (get_or beats (j / 8) no_beat).lanes
      (lane_of address s j)) (sym fields.size))

  told_here : told_reply (first ∷ rest) address ≡ reply
  told_here =
      let fields = (spells.each 0 first refl).fields in
      let count : reply_byte_count (reply_op_at first.opcode) first.size ≡ reply_byte_count reply.op reply.size =
      rw (op_is, fields.size) refl in
      let long : length reply.bytes ≡ reply_byte_count (reply_op_at first.opcode) first.size =
      lawful.counted ∙ sym count in
      let bytes = fill_by_all (told_byte beats address first) reply.bytes
      (reply_byte_count (reply_op_at first.opcode) first.size) 0 long (λ k h. told_at k (rw long h)) in
      λ i. record {
        op = op_is i;
        size = fields.size i;
        source = fields.source i;
        denied = fields.denied i;
        bytes = sym bytes i;
      }

pub told_is : (reply : Response) (address : ℕ) (beats : List DBeat)
    → IsLawfulResponse reply.op reply.size reply.denied reply.bytes → SpellsReply reply address beats
    → told_reply beats address ≡ reply
told_is reply address [] lawful spells = absurd (omega (arith, first_spelled reply address [] spells))
told_is reply address (first ∷ rest) lawful spells = told_here reply address first rest lawful spells

-- ---- a byte that is read where it lies

-- the same, where the first beat is got from the list
pub byte_at : (reply : Response) (address : ℕ) (beats : List DBeat) (first : DBeat) → slice_get beats 0 ≡ Some first
    → IsLawfulResponse reply.op reply.size reply.denied reply.bytes → SpellsReply reply address beats
    → (j : ℕ) → j < length reply.bytes → slice_get reply.bytes j ≡ Some (told_byte beats address first j)
byte_at reply address [] first head lawful spells j h = absurd (omega (arith, first_spelled reply address [] spells))
byte_at reply address (x ∷ rest) first head lawful spells j h =
    let same : x ≡ first = cc in
    slice_get-get_or reply.bytes j 0 h ∙ ap (λ (b : ℕ). Some b) (told_at reply address x rest lawful spells j h)
    ∙ ap (λ (f : DBeat). Some (told_byte (x ∷ rest) address f j)) same

-- the lane, counted from that of the address
pub lane_from : (address size first j : ℕ) → first ≡ low address size % 8 → (first + j) % 8 ≡ lane_of address size j
lane_from address size first j is = omega arith
