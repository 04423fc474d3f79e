-- What is known of the beats of a reply that are read one by one.
use Rattle.std.proofs.Common.{◌≡◌, ◌≢◌, ◌∙◌, ℕ, ◌/◌, ◌<◌, Bool, List, length, Some, None, slice_get, get_or, ap, sym, subst, arith}
use Rattle.std.specs.Prelude.{IsSomeAnd}
use Rattle.std.proofs.lemmas.Option.{slice_get_within, slice_get-get_or}
use Rattle.tl_types.specs.List.{HoldsBelow, FailsFirstAt}
use Rattle.tl_types.specs.Response.{Response, IsLawfulResponse}
use Rattle.tl_types.specs.Operation.{reply_carries_bytes, reply_byte_count}
use Rattle.tl_types.specs.Wire.{reply_opcode_of, IsFirstReplyOpFault}
use Rattle.tl_types.specs.declared.operation.ReplyOp.{ReplyOp}
use Rattle.tl_types.specs.declared.wire.OpFault.{OpFault}
use Rattle.tl_types.specs.declared.wire.OpFault.TheVariants.{Cached, UnknownOpcode, UnknownParam}
use Rattle.tl_types.specs.declared.limits.TheConstants.{MAX_SIZE}
use Rattle.tl_beats.specs.Beats.{beat_count}
use Rattle.tl_beats.specs.Replies.{IsLawfulFlag, SpellsReply}
use Rattle.tl_beats.specs.Faults.{SameReplyFields, HasReplyBeatFault, beat_fault_rank, IsFirstReplyBeatFault}
use Rattle.tl_beats.specs.Reading.{HasLawfulFlag, AreFaultlessReply, AreReplyBytesOf, IsReplyBegun, IsReplyReadFrom, IsFaultOfReplyBeats}
use Rattle.tl_beats.specs.declared.beat.DBeat.{DBeat}
use Rattle.tl_beats.specs.declared.beat.BeatFault.{BeatFault}
use Rattle.tl_beats.specs.declared.beat.BeatFault.TheVariants.{NoBeat, Op, Size, Count, Changed, Mask, CorruptFlag}
use Rattle.tl_beats.proofs.Failing.{at_element, none_fails}
use Rattle.tl_beats.proofs.Codes.{same_reply_op}
use Rattle.tl_beats.proofs.Only.{beat_of_byte}
use Rattle.tl_beats.proofs.ReplyOnly.{same_reply}

-- beats without fault and the bytes that stand in them
pub reply_read_from : (beats : List DBeat) (first : DBeat) (op : ReplyOp) (address : ℕ) (bytes : List ℕ)
    → AreFaultlessReply beats first op → AreReplyBytesOf beats first op address bytes
    → IsReplyReadFrom beats first op address bytes
reply_read_from beats first op address bytes faultless read =
    record { same = faultless.same; flags = faultless.flags; counted = read.counted; each = read.each }

-- ---- a reply that beats spell, against their first beat

-- no beat differs from the first
no_reply_change : (reply : Response) (address : ℕ) (beats : List DBeat) (first : DBeat) (b : ℕ)
    → slice_get beats 0 ≡ Some first → SpellsReply reply address beats → FailsFirstAt (SameReplyFields first) beats b
    → ⊥
no_reply_change reply address beats first b head spells fails =
    let found = at_element (λ beat. SameReplyFields first beat → ⊥) (slice_get beats b) fails.here in
    let here = (spells.each b found.0 found.1).fields in
    let there = (spells.each 0 first head).fields in
    found.2 record { opcode = cc; size = cc; source = cc; denied = cc }

flag_same : (op other : ReplyOp) (denied denied' corrupt : Bool) → other ≡ op → denied' ≡ denied
    → IsLawfulFlag other denied' corrupt → IsLawfulFlag op denied corrupt
flag_same op other denied denied' corrupt p q h = rw (← p, ← q) h

-- no flag is unlawful
no_bad_flag : (reply : Response) (address : ℕ) (beats : List DBeat) (first : DBeat) (op : ReplyOp) (b : ℕ)
    → slice_get beats 0 ≡ Some first → SpellsReply reply address beats → reply.op ≡ op
    → FailsFirstAt (HasLawfulFlag op first) beats b → ⊥
no_bad_flag reply address beats first op b head spells same fails =
    let found = at_element (λ beat. HasLawfulFlag op first beat → ⊥) (slice_get beats b) fails.here in
    let lawful = (spells.each b found.0 found.1).corrupt in
    let there = (spells.each 0 first head).fields in
    found.2 (flag_same op reply.op first.denied reply.denied found.0.corrupt same (sym there.denied) lawful)

-- ---- beats whose first beat has no fault

-- no reply is spelled where a beat is at fault
pub no_reply : (beats : List DBeat) (first : DBeat) (op : ReplyOp) (fault : BeatFault) → IsReplyBegun beats first op
    → IsFaultOfReplyBeats beats first op fault → (reply : Response) (address : ℕ) → SpellsReply reply address beats → ⊥
no_reply beats first op NoBeat begun h reply address spells = h
no_reply beats first op (Op f) begun h reply address spells = h
no_reply beats first op Size begun h reply address spells = h
no_reply beats first op Count begun h reply address spells = h
no_reply beats first op (Changed b) begun h reply address spells =
    no_reply_change reply address beats first b begun.head spells h
no_reply beats first op (Mask b) begun h reply address spells = h
no_reply beats first op (CorruptFlag b) begun h reply address spells =
    let same : reply.op ≡ op =
    same_reply_op reply.op op first.opcode (sym (spells.each 0 first begun.head).fields.opcode) begun.code in
    no_bad_flag reply address beats first op b begun.head spells same h.1

-- an opcode that a reply has is not at fault
no_reply_op_fault : (op : ReplyOp) (opcode : ℕ) (fault : OpFault) → reply_opcode_of op ≡ opcode
    → IsFirstReplyOpFault opcode fault → ⊥
no_reply_op_fault op opcode Cached code h = h.applies
no_reply_op_fault op opcode UnknownOpcode code h = h.applies op code
no_reply_op_fault op opcode UnknownParam code h = h.applies

module _ (beats : List DBeat) (first : DBeat) (op : ReplyOp) (begun : IsReplyBegun beats first op) where
  -- what is said of the first beat and of the opcode that it names
  of_first : (P : DBeat → Type 0) → IsSomeAnd (slice_get beats 0) P → P first
  of_first P h =
      let found = at_element P (slice_get beats 0) h in
      let is_first : found.0 ≡ first = cc in
      subst P is_first found.2

  no_earlier : (other : BeatFault) → beat_fault_rank other < 5 → HasReplyBeatFault beats other → ⊥
  no_earlier NoBeat rank h = let none : slice_get beats 0 ≡ None = ap (λ xs. slice_get xs 0) h in absurd (cc)
  no_earlier (Op fault) rank h =
      no_reply_op_fault op first.opcode fault begun.code (of_first (λ x. IsFirstReplyOpFault x.opcode fault) h)
  no_earlier Size rank h = omega (arith, begun.in_limit, of_first (λ x. MAX_SIZE < x.size) h)
  no_earlier Count rank h =
      let named = of_first (λ x. (o : ReplyOp) × (reply_opcode_of o ≡ x.opcode)
      × (length beats ≢ beat_count (reply_carries_bytes o) x.size)) h in
      let same : op ≡ named.0 = same_reply_op op named.0 first.opcode begun.code named.1 in
      named.2 (begun.count ∙ ap (λ o. beat_count (reply_carries_bytes o) first.size) same)
  no_earlier (Changed k) rank h = absurd (omega (arith, rank))
  no_earlier (Mask k) rank h = absurd h
  no_earlier (CorruptFlag k) rank h = absurd (omega (arith, rank))

  no_earlier_than_flag : HoldsBelow (SameReplyFields first) beats (length beats) → (other : BeatFault)
      → beat_fault_rank other < 7 → HasReplyBeatFault beats other → ⊥
  no_earlier_than_flag same NoBeat rank h = no_earlier NoBeat (omega arith) h
  no_earlier_than_flag same (Op fault) rank h = no_earlier (Op fault) (omega arith) h
  no_earlier_than_flag same Size rank h = no_earlier Size (omega arith) h
  no_earlier_than_flag same Count rank h = no_earlier Count (omega arith) h
  no_earlier_than_flag same (Changed k) rank h =
      none_fails (SameReplyFields first) beats k same (of_first (λ x. FailsFirstAt (SameReplyFields x) beats k) h)
  no_earlier_than_flag same (Mask k) rank h = absurd h
  no_earlier_than_flag same (CorruptFlag k) rank h = absurd (omega (arith, rank))

  -- a fault that shows in a beat is then the first one
  pub first_of_reply_beats : (fault : BeatFault) → IsFaultOfReplyBeats beats first op fault
      → IsFirstReplyBeatFault beats fault
  first_of_reply_beats NoBeat h = absurd h
  first_of_reply_beats (Op f) h = absurd h
  first_of_reply_beats Size h = absurd h
  first_of_reply_beats Count h = absurd h
  first_of_reply_beats (Changed b) h = record { applies = rw begun.head h; first = no_earlier }
  first_of_reply_beats (Mask b) h = absurd h
  first_of_reply_beats (CorruptFlag b) h =
      record { applies = rw begun.head (op, begun.code, h.1); first = no_earlier_than_flag h.0 }

-- ---- the reply that was read

abbrev pub read_reply : DBeat → ReplyOp → List ℕ → Response
read_reply first op bytes =
    record { op = op; size = first.size; source = first.source; denied = first.denied; bytes = bytes }

module _ (beats : List DBeat) (first : DBeat) (op : ReplyOp) (address : ℕ) (begun : IsReplyBegun beats first op)
    (bytes : List ℕ) (read : IsReplyReadFrom beats first op address bytes) where
  pub reply_read_lawful : IsLawfulResponse op first.size first.denied bytes
  reply_read_lawful = record {
    in_limit = begun.in_limit;
    counted = read.counted;
    clean = λ denied j d h.
        let counted : j < reply_byte_count op first.size = rw read.counted at h in
        let there : j / 8 < length beats =
        rw begun.count (beat_of_byte (reply_carries_bytes op) first.size j counted) in
        (read.each j (get_or bytes j d) (get_or beats (j / 8) first) (slice_get-get_or bytes j d h)
        (slice_get-get_or beats (j / 8) first there)).zero_of_denied denied;
  }

  pub reply_read_spells : SpellsReply (read_reply first op bytes) address beats
  reply_read_spells = record {
    count = begun.count;
    each = λ b beat at.
        let within = slice_get_within beats b beat at in
        let same = read.same b beat within at in
        record {
          fields = record {
            opcode = same.opcode ∙ sym begun.code;
            size = same.size;
            source = same.source;
            denied = same.denied;
          };
          corrupt = read.flags b beat within at;
          bytes = λ given j byte found in_beat. (read.each j byte beat found
              (ap (λ k. slice_get beats k) in_beat ∙ at)).given given;
        };
  }

  -- no other reply is spelled
  pub reply_read_only : (reply : Response) → IsLawfulResponse reply.op reply.size reply.denied reply.bytes
      → SpellsReply reply address beats → read_reply first op bytes ≡ reply
  reply_read_only reply lawful spells =
      same_reply (read_reply first op bytes) reply address beats reply_read_lawful lawful reply_read_spells spells
