use Rattle.std.proofs.Common.{rules, arith, ◌≡◌, sym, Some, slice_get}
use Rattle.tl_types.specs.Wire.{reply_opcode_of}
use Rattle.std.proofs.lemmas.Result.{MatchResult-at_ok, err_from_is_err_and}
use Rattle.tl_beats.specs.declared.beat.BeatFault.TheVariants.{Op}
use Rattle.tl_beats.specs.Reading.{IsReplyBegun}
use Rattle.tl_beats.proofs.ReplyOnly.{same_reply}
use Rattle.tl_beats.proofs.ReplyReading.{no_reply, first_of_reply_beats}
use Rattle.tl_beats.proofs.reply_assemble.assemble_reply_into.Goals as goal

pub returns-in_err-op-clause-all : goal.returns-in_err-op-clause-all
returns-in_err-op-clause-all c reply lawful spells =
    let beats = c.args.beats.now in
    let first = c.in_ok-first.first.now in
    let head : slice_get beats 0 ≡ Some first = search rules in
    let code : reply_opcode_of reply.op ≡ first.opcode = sym (spells.each 0 first head).fields.opcode in
    let named = c.read_reply_op.ensures.all reply.op code in
    let kept = MatchResult-at_ok _ (λ e. c.in_err-op.field-0.0 ≡ Op e) reply.op named c.in_err-op.ensures.cases in
    absurd (cc kept)

pub returns-then-first-gt-MAX_SIZE-clause-all : goal.returns-then-first-gt-MAX_SIZE-clause-all
returns-then-first-gt-MAX_SIZE-clause-all c reply lawful spells =
    let first = c.in_ok-first.first.now in
    let head : slice_get c.args.beats.now 0 ≡ Some first = search rules in
    absurd (omega (arith, lawful.in_limit, (spells.each 0 first head).fields.size))

pub returns-then-beats-beat_count-clause-all : goal.returns-then-beats-beat_count-clause-all
returns-then-beats-beat_count-clause-all c reply lawful spells =
    let beats = c.args.beats.now in
    let first = c.in_ok-first.first.now in
    let head : slice_get beats 0 ≡ Some first = search rules in
    let code : reply_opcode_of reply.op ≡ first.opcode = sym (spells.each 0 first head).fields.opcode in
    let named = c.read_reply_op.ensures.all reply.op code in
    let kept = MatchResult-at_ok _ (λ _. ⊥) reply.op named c.in_ok-op.ensures.cases in
    let same : reply.op ≡ c.in_ok-op.op = cc kept in
    absurd (c.if-beats-beat_count.true (cc (spells.count, (spells.each 0 first head).fields.size)))

pub returns-in_err-check_reply_beats-clause-all : goal.returns-in_err-check_reply_beats-clause-all
returns-in_err-check_reply_beats-clause-all c reply lawful spells =
    let begun : IsReplyBegun c.args.beats.now c.in_ok-first.first.now c.in_ok-op.op = record {
      head = search rules;
      code = search rules;
      in_limit = c.if-first-gt-MAX_SIZE.false;
      count = search rules;
    } in
    absurd (no_reply c.args.beats.now c.in_ok-first.first.now c.in_ok-op.op c.in_err-check_reply_beats.field-0.0 begun c.in_err-check_reply_beats.ensures.fault reply c.args.address spells)

pub returns-in_err-check_reply_beats-clause-fault : goal.returns-in_err-check_reply_beats-clause-fault
returns-in_err-check_reply_beats-clause-fault c =
    let begun : IsReplyBegun c.args.beats.now c.in_ok-first.first.now c.in_ok-op.op = record {
      head = search rules;
      code = search rules;
      in_limit = c.if-first-gt-MAX_SIZE.false;
      count = search rules;
    } in
    let exit = err_from_is_err_and c.from_residual-in_err-check_reply_beats.result c.from_residual-in_err-check_reply_beats.ensures.1 in
    rw (exit.1, exit.2) (first_of_reply_beats c.args.beats.now c.in_ok-first.first.now c.in_ok-op.op begun c.in_err-check_reply_beats.field-0.0 c.in_err-check_reply_beats.ensures.fault)

pub fill_reply-requires-clause-begun : goal.fill_reply-requires-clause-begun
fill_reply-requires-clause-begun c = record {
  head = search rules;
  code = search rules;
  in_limit = c.if-first-gt-MAX_SIZE.false;
  count = search rules;
}

-- beats spell one reply at most
pub returns-clause-all : goal.returns-clause-all
returns-clause-all c response lawful spells =
    (search rules, same_reply c.fill_reply.new.reply response c.args.address c.args.beats.now c.fill_reply.ensures.lawful lawful c.fill_reply.ensures.spells spells)
