use Rattle.std.proofs.Common.{replicate, arith}
use Rattle.tl_types.specs.declared.bytes.TheConstants.{MAX_WORDS}
use Rattle.tl_types.proofs.Given.{small_set, kept_none}
use Rattle.tl_types.proofs.Masks.{flagged_one}
use Rattle.tl_types.proofs.bytes.put_flagged_masks.Goals as goal

pub returns-clause-small : goal.returns-clause-small
returns-clause-small c = small_set (replicate MAX_WORDS 0) 0 c.flag_mask.result kept_none.small c.flag_mask.type_inv

pub returns-clause-bits : goal.returns-clause-bits
returns-clause-bits c =
    flagged_one c.args.flags.now c.flag_mask.result (omega (arith, c.if-flags-gt-WORD_BYTES.false)) c.flag_mask.ensures
