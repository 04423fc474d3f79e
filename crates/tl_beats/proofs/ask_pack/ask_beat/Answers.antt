use Rattle.std.proofs.Common.{rules, arith, ◌≡◌, ◌∙◌, sym, ap, ◌-◌, ◌*◌, ◌/◌, ◌%◌, ◌^◌, ◌<◌, max, true, false, length, unwrap_or}
use Rattle.std.proofs.lemmas.List.{length-map}
use Rattle.tl_types.specs.Bytes.{plain_of}
use Rattle.tl_types.specs.Operation.{carries_bytes}
use Rattle.tl_beats.proofs.Places.{first_fits}
use Rattle.tl_beats.proofs.Words.{length-word}
use Rattle.tl_beats.proofs.Spelling.{StandsAt-placed}
use Rattle.tl_beats.proofs.Lawful.{mask-whole, mask-part}
use Rattle.tl_beats.proofs.Placing.{IsPlaced, word_within, placed, none_of_clear}
use Rattle.tl_beats.proofs.ask_pack.ask_beat.Goals as goal

pub mask-requires : goal.mask-requires
mask-requires c =
    let ask = c.args.ask.now in
    let lawful = c.bytes-bytes.ensures.lawful in
    word_within ask.size c.args.b lawful.in_limit (search rules)

pub placed-requires : goal.placed-requires
placed-requires c =
    let ask = c.args.ask.now in
    let plain = c.plain-plain.result.now in
    let lawful = c.bytes-bytes.ensures.lawful in
    let counted : length ask.bytes ≡ 2 ^ ask.size = search rules in
    let total : length plain ≡ 2 ^ ask.size =
    ap length c.plain-plain.ensures ∙ length-map c.bytes-bytes.result.now (λ byte. unwrap_or byte 0)
    ∙ ap length c.bytes-bytes.ensures.value ∙ counted in
    let long = length-word plain (8 * c.args.b) (c.min.result - 8 * c.args.b) (omega (arith, c.min.ensures)) in
    omega (arith, long, first_fits ask.address ask.size, c.requires.first, c.min.ensures, total)

pub returns-clause-spells : goal.returns-clause-spells
returns-clause-spells c =
    let ask = c.args.ask.now in
    let b = c.args.b in
    let lawful = c.bytes-bytes.ensures.lawful in
    let seen = c.bytes-bytes.ensures.value in
    let counted : length ask.bytes ≡ 2 ^ ask.size = search rules in
    let beat : b < max 1 (2 ^ ask.size / 8) = search rules in
    let stand : IsPlaced ask b (c.mask.result * 2 ^ c.args.first % 256) c.placed.result =
    placed ask b c.args.first c.mask.result
    (c.min.result - 8 * b) c.plain-plain.result.now c.placed.result counted beat c.requires.first
    (c.plain-plain.ensures ∙ ap plain_of seen) (omega (arith, c.min.ensures))
    (rw (← seen) c.mask.ensures) c.placed.ensures in
    let mask = c.mask.result * 2 ^ c.args.first % 256 in
    let fits : mask < 2 ^ 8 = omega arith in
    let blank = c.requires.blank.fields in
    record {
      fields = record {
        opcode = blank.opcode;
        param = blank.param;
        size = blank.size;
        source = blank.source;
        address = blank.address;
      };
      mask = record {
        whole = λ whole. mask-whole ask b mask fits counted beat stand.masked (lawful.whole whole);
        part = λ _. mask-part ask b mask fits counted beat stand.masked;
      };
      bytes = StandsAt-placed mask c.placed.result ask b (omega (arith, counted)) stand.masked stand.filled;
    }

pub returns-clause-clean : goal.returns-clause-clean
returns-clause-clean c =
    let ask = c.args.ask.now in
    let b = c.args.b in
    let lawful = c.bytes-bytes.ensures.lawful in
    let seen = c.bytes-bytes.ensures.value in
    let carries : carries_bytes ask.op ≡ true = search rules in
    let counted : length ask.bytes ≡ 2 ^ ask.size = search rules in
    let beat : b < max 1 (2 ^ ask.size / 8) = search rules in
    let stand : IsPlaced ask b (c.mask.result * 2 ^ c.args.first % 256) c.placed.result =
    placed ask b c.args.first c.mask.result
    (c.min.result - 8 * b) c.plain-plain.result.now c.placed.result counted beat c.requires.first
    (c.plain-plain.ensures ∙ ap plain_of seen) (omega (arith, c.min.ensures))
    (rw (← seen) c.mask.ensures) c.placed.ensures in
    record {
      without_bytes = λ none k h. let no : true ≡ false = sym carries ∙ none in absurd (cc);
      unset = λ k h clear. stand.filled k h ∙ none_of_clear _ (sym (stand.masked k h) ∙ clear);
    }
