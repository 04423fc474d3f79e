use Rattle.std.proofs.Common.{arith, ◌≡◌, ◌∙◌, ap, ℕ, ◌+◌, ◌*◌, ◌%◌, ◌<◌, ◌≤◌, length, take, drop, slice_index}
use Rattle.tl_types.specs.Operation.{reply_carries_bytes, reply_byte_count}
use Rattle.tl_beats.specs.Beats.{low}
use Rattle.tl_beats.specs.Packing.{plain_at_place}
use Rattle.tl_beats.proofs.Places.{wide_first, wide_beat}
use Rattle.tl_beats.proofs.ReplySpelling.{plain_at_place-zero, filled_wide, reply_bytes_stand, reply_idle, reply_empty, flag_of_marked}
use Rattle.tl_beats.proofs.reply_pack.whole_beat.Goals as goal

pub word_from-beat-requires : goal.word_from-beat-requires
word_from-beat-requires c =
    let reply = c.args.reply.now in
    let counted = c.bytes.ensures.lawful.counted in
    let long = ap length c.bytes.ensures.value in
    omega (
      arith,
      long,
      counted,
      wide_beat (reply_carries_bytes reply.op) reply.size c.args.b c.requires.beat
          (rw (← counted) c.requires.wide),
    )

pub returns-clause-spells : goal.returns-clause-spells
returns-clause-spells c address =
    let reply = c.args.reply.now in
    let b = c.args.b in
    let lawful = c.bytes.ensures.lawful in
    let carries = reply_carries_bytes reply.op in
    let wide : 8 ≤ reply_byte_count reply.op reply.size = rw (← lawful.counted) c.requires.wide in
    let within : 8 * b + 8 ≤ length reply.bytes =
    rw lawful.counted (wide_beat carries reply.size b c.requires.beat wide) in
    let word : c.word_from-beat.result ≡ take 8 (drop (8 * b) reply.bytes) =
    c.word_from-beat.ensures ∙ ap (λ xs. take 8 (drop (8 * b) xs)) c.bytes.ensures.value in
    let filled : (k : ℕ) → k < 8 → slice_index c.word_from-beat.result k ≡ plain_at_place reply.bytes
    (low address reply.size % 8) (8 * b + k) =
    rw word (filled_wide reply.bytes (low address reply.size % 8) b
    (wide_first carries address reply.size wide) within) in
    let blank = c.requires.blank.fields in
    record {
      fields = record { opcode = blank.opcode; size = blank.size; source = blank.source; denied = blank.denied };
      corrupt = flag_of_marked reply.op reply.denied c.args.blank.now.corrupt c.requires.blank.marked;
      bytes = λ _. reply_bytes_stand reply address b c.word_from-beat.result lawful.counted c.requires.beat filled;
    }

pub returns-clause-clean : goal.returns-clause-clean
returns-clause-clean c address =
    let reply = c.args.reply.now in
    let b = c.args.b in
    let lawful = c.bytes.ensures.lawful in
    let carries = reply_carries_bytes reply.op in
    let wide : 8 ≤ reply_byte_count reply.op reply.size = rw (← lawful.counted) c.requires.wide in
    let within : 8 * b + 8 ≤ length reply.bytes =
    rw lawful.counted (wide_beat carries reply.size b c.requires.beat wide) in
    let word : c.word_from-beat.result ≡ take 8 (drop (8 * b) reply.bytes) =
    c.word_from-beat.ensures ∙ ap (λ xs. take 8 (drop (8 * b) xs)) c.bytes.ensures.value in
    let filled : (k : ℕ) → k < 8 → slice_index c.word_from-beat.result k ≡ plain_at_place reply.bytes
    (low address reply.size % 8) (8 * b + k) =
    rw word (filled_wide reply.bytes (low address reply.size % 8) b
    (wide_first carries address reply.size wide) within) in
    record {
      without_bytes = reply_empty reply address b c.word_from-beat.result lawful.counted c.requires.beat filled;
      denied = λ is k h. filled k h ∙ plain_at_place-zero reply.bytes (low address reply.size % 8) (8 * b + k)
          (lawful.clean is);
      inactive = reply_idle reply address b c.word_from-beat.result lawful.counted c.requires.beat filled;
      marked = c.requires.blank.marked;
    }
