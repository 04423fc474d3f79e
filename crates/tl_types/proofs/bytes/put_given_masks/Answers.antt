use Rattle.std.proofs.Common.{◌-◌, ◌/◌, ◌^◌, ◌<◌, replicate, arith}
use Rattle.tl_types.specs.declared.bytes.TheConstants.{MAX_WORDS}
use Rattle.tl_types.proofs.Given.{small_set, small_ones, kept_none}
use Rattle.tl_types.proofs.Masks.{first_one}
use Rattle.tl_types.proofs.bytes.put_given_masks.Goals as goal

pub returns-clause-small : goal.returns-clause-small
returns-clause-small c =
    let mask = c.from.result / 2 ^ (8 - c.args.count) in
    let fits : mask < 256 =
    rw c.from.ensures (small_ones c.args.count (omega (arith, c.if-count-gt-WORD_BYTES.false))) in
    small_set (replicate MAX_WORDS 0) 0 mask kept_none.small fits

pub returns-clause-given : goal.returns-clause-given
returns-clause-given c =
    (first_one c.args.count c.from.result c.from.ensures (omega (arith, c.if-count-gt-WORD_BYTES.false))).0

pub returns-clause-past : goal.returns-clause-past
returns-clause-past c =
    (first_one c.args.count c.from.result c.from.ensures (omega (arith, c.if-count-gt-WORD_BYTES.false))).1
