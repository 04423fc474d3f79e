use Rattle.std.proofs.Common.{rules, arith, ◌≡◌, Some, slice_get}
use Rattle.std.proofs.lemmas.Result.{MatchResult-at_ok, err_from_is_err_and}
use Rattle.tl_beats.specs.declared.beat.BeatFault.TheVariants.{Op}
use Rattle.tl_beats.proofs.Only.{code_of_spelled}
use Rattle.tl_beats.specs.Reading.{IsBegun}
use Rattle.tl_beats.proofs.Only.{same_ask}
use Rattle.tl_beats.proofs.Reading.{no_request, first_of_beats}
use Rattle.tl_beats.proofs.ask_assemble.assemble_ask_into.Goals as goal

pub returns-in_err-op-clause-all : goal.returns-in_err-op-clause-all
returns-in_err-op-clause-all c ask lawful spells =
    let beats = c.args.beats.now in
    let first = c.in_ok-first.first.now in
    let head : slice_get beats 0 ≡ Some first = search rules in
    let named = c.read_op.ensures.all ask.op (code_of_spelled ask beats first head spells) in
    let kept = MatchResult-at_ok _ (λ e. c.in_err-op.field-0.0 ≡ Op e) ask.op named c.in_err-op.ensures.cases in
    absurd (cc kept)

pub returns-then-first-gt-MAX_SIZE-clause-all : goal.returns-then-first-gt-MAX_SIZE-clause-all
returns-then-first-gt-MAX_SIZE-clause-all c ask lawful spells =
    let first = c.in_ok-first.first.now in
    let head : slice_get c.args.beats.now 0 ≡ Some first = search rules in
    absurd (omega (arith, lawful.in_limit, (spells.each 0 first head).fields.size))

pub returns-then-beats-beat_count-clause-all : goal.returns-then-beats-beat_count-clause-all
returns-then-beats-beat_count-clause-all c ask lawful spells =
    let beats = c.args.beats.now in
    let first = c.in_ok-first.first.now in
    let head : slice_get beats 0 ≡ Some first = search rules in
    let named = c.read_op.ensures.all ask.op (code_of_spelled ask beats first head spells) in
    let kept = MatchResult-at_ok _ (λ _. ⊥) ask.op named c.in_ok-op.ensures.cases in
    let same : ask.op ≡ c.in_ok-op.op = cc kept in
    absurd (c.if-beats-beat_count.true (cc (spells.count, (spells.each 0 first head).fields.size)))

pub returns-in_err-check_beats-clause-all : goal.returns-in_err-check_beats-clause-all
returns-in_err-check_beats-clause-all c ask lawful spells =
    let begun : IsBegun c.args.beats.now c.in_ok-first.first.now c.in_ok-op.op = record {
      head = search rules;
      code = search rules;
      in_limit = c.if-first-gt-MAX_SIZE.false;
      count = search rules;
    } in
    absurd (no_request c.args.beats.now c.in_ok-first.first.now c.in_ok-op.op c.in_err-check_beats.field-0.0 begun c.in_err-check_beats.ensures.fault ask spells)

pub returns-in_err-check_beats-clause-fault : goal.returns-in_err-check_beats-clause-fault
returns-in_err-check_beats-clause-fault c =
    let begun : IsBegun c.args.beats.now c.in_ok-first.first.now c.in_ok-op.op = record {
      head = search rules;
      code = search rules;
      in_limit = c.if-first-gt-MAX_SIZE.false;
      count = search rules;
    } in
    let exit = err_from_is_err_and c.from_residual-in_err-check_beats.result c.from_residual-in_err-check_beats.ensures.1 in
    rw (exit.1, exit.2) (first_of_beats c.args.beats.now c.in_ok-first.first.now c.in_ok-op.op begun c.in_err-check_beats.field-0.0 c.in_err-check_beats.ensures.fault)

pub fill_ask-requires-clause-begun : goal.fill_ask-requires-clause-begun
fill_ask-requires-clause-begun c = record {
  head = search rules;
  code = search rules;
  in_limit = c.if-first-gt-MAX_SIZE.false;
  count = search rules;
}

-- beats spell one request at most
pub returns-clause-all : goal.returns-clause-all
returns-clause-all c request lawful spells =
    (search rules, same_ask c.fill_ask.new.ask request c.args.beats.now c.fill_ask.ensures.lawful lawful c.fill_ask.ensures.spells spells)
