use Rattle.std.proofs.Common.{◌∙◌, ◌*◌, ◌-◌, ◌<◌, length, refl, arith}
use Rattle.std.proofs.lemmas.List.{length-set}
use Rattle.tl_types.proofs.Given.{small_set, kept_none}
use Rattle.tl_types.proofs.Masks.{none_flagged, flagged_more, all_flagged}
use Rattle.tl_types.proofs.bytes.flagged_words.Goals as goal

pub loop-word-init : goal.loop-word-init
loop-word-init c = record { flagged = none_flagged c.args.flags.now; counted = refl; small = kept_none.small }

pub loop-word-preserved : goal.loop-word-preserved
loop-word-preserved c =
    let masks = c.loop-word.masks in
    let word = c.loop-word.word in
    let mask = c.flag_mask.result in
    let so_far = c.loop-word.invariant in
    let within : word < length masks =
    omega (arith, so_far.counted, c.loop-word-test.true, c.div_ceil-word-end.ensures) in
    record {
      flagged = flagged_more masks c.args.flags.now word mask (c.min.result - 8 * word) within
          (omega (arith, c.min.ensures)) c.flag_mask.ensures so_far.flagged;
      counted = length-set masks word mask ∙ so_far.counted;
      small = small_set masks word mask so_far.small c.flag_mask.type_inv;
    }

pub returns-clause-bits : goal.returns-clause-bits
returns-clause-bits c place =
    all_flagged c.loop-word.masks c.args.flags.now (8 * c.loop-word.word)
    (omega (arith, c.loop-word-test.false, c.div_ceil-word-end.ensures)) c.loop-word.invariant.flagged place
