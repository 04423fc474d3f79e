use Rattle.std.proofs.Common.{rules, arith, ◌≡◌, ◌∙◌, ap, ℕ, ◌+◌, ◌*◌, ◌%◌, ◌<◌, length, slice_index}
use Rattle.tl_types.specs.Operation.{reply_carries_bytes}
use Rattle.tl_beats.specs.Beats.{low, beat_count}
use Rattle.tl_beats.specs.Packing.{plain_at_place}
use Rattle.tl_beats.proofs.Places.{first_fits, bytes_of_size, one_beat}
use Rattle.tl_beats.proofs.ReplySpelling.{plain_at_place-zero, reply_bytes_stand, reply_idle, reply_empty, flag_of_marked}
use Rattle.tl_beats.proofs.reply_pack.only_beat.Goals as goal

pub placed-requires : goal.placed-requires
placed-requires c =
    let reply = c.args.reply.now in
    let lawful = c.bytes.ensures.lawful in
    let first : c.first_lane-first.result ≡ low c.args.address reply.size % 8 = search rules in
    let long = ap length c.bytes.ensures.value in
    omega (
      arith,
      long,
      lawful.counted,
      c.requires.narrow,
      first,
      first_fits c.args.address reply.size,
      bytes_of_size (reply_carries_bytes reply.op) reply.size,
    )

pub returns-clause-spells : goal.returns-clause-spells
returns-clause-spells c =
    let reply = c.args.reply.now in
    let address = c.args.address in
    let bytes = c.bytes.result.now in
    let lawful = c.bytes.ensures.lawful in
    let seen = c.bytes.ensures.value in
    let first : c.first_lane-first.result ≡ low address reply.size % 8 = search rules in
    let beat : 0 < beat_count (reply_carries_bytes reply.op) reply.size =
    rw (← one_beat (reply_carries_bytes reply.op) reply.size (rw (← lawful.counted) c.requires.narrow))
    (omega arith) in
    let filled : (k : ℕ) → k < 8 → slice_index c.placed.result k ≡ plain_at_place reply.bytes
    (low address reply.size % 8) (8 * 0 + k) = λ k h.
    let place : k ≡ 8 * 0 + k = omega arith in
    c.placed.ensures k h ∙ ap (λ f. plain_at_place bytes f k) first
    ∙ ap (λ xs. plain_at_place xs (low address reply.size % 8) k) seen
    ∙ ap (λ p. plain_at_place reply.bytes (low address reply.size % 8) p) place in
    let blank = c.requires.blank.fields in
    record {
      fields = record { opcode = blank.opcode; size = blank.size; source = blank.source; denied = blank.denied };
      corrupt = flag_of_marked reply.op reply.denied c.args.blank.now.corrupt c.requires.blank.marked;
      bytes = λ _. reply_bytes_stand reply address 0 c.placed.result lawful.counted beat filled;
    }

pub returns-clause-clean : goal.returns-clause-clean
returns-clause-clean c =
    let reply = c.args.reply.now in
    let address = c.args.address in
    let bytes = c.bytes.result.now in
    let lawful = c.bytes.ensures.lawful in
    let seen = c.bytes.ensures.value in
    let first : c.first_lane-first.result ≡ low address reply.size % 8 = search rules in
    let beat : 0 < beat_count (reply_carries_bytes reply.op) reply.size =
    rw (← one_beat (reply_carries_bytes reply.op) reply.size (rw (← lawful.counted) c.requires.narrow))
    (omega arith) in
    let filled : (k : ℕ) → k < 8 → slice_index c.placed.result k ≡ plain_at_place reply.bytes
    (low address reply.size % 8) (8 * 0 + k) = λ k h.
    let place : k ≡ 8 * 0 + k = omega arith in
    c.placed.ensures k h ∙ ap (λ f. plain_at_place bytes f k) first
    ∙ ap (λ xs. plain_at_place xs (low address reply.size % 8) k) seen
    ∙ ap (λ p. plain_at_place reply.bytes (low address reply.size % 8) p) place in
    record {
      without_bytes = reply_empty reply address 0 c.placed.result lawful.counted beat filled;
      denied = λ is k h. filled k h ∙ plain_at_place-zero reply.bytes (low address reply.size % 8) (8 * 0 + k)
          (lawful.clean is);
      inactive = reply_idle reply address 0 c.placed.result lawful.counted beat filled;
      marked = c.requires.blank.marked;
    }
