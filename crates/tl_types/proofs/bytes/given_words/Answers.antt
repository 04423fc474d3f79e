use Rattle.std.proofs.Common.{◌≡◌, ◌/◌, ◌%◌, ◌∙◌, arith, refl}
use Rattle.std.proofs.lemmas.List.{length-set}
use Rattle.tl_types.proofs.Given.{small_set, small_ones, kept_none}
use Rattle.tl_types.proofs.Masks.{none_first, first_more, first_end}
use Rattle.tl_types.proofs.bytes.given_words.Goals as goal

pub loop-word-init : goal.loop-word-init
loop-word-init c = record { first = none_first; counted = refl; small = kept_none.small }

pub loop-word-preserved : goal.loop-word-preserved
loop-word-preserved c =
    let masks = c.loop-word.masks in
    let word = c.loop-word.word in
    let so_far = c.loop-word.invariant in
    record {
      first = first_more masks word (omega (arith, so_far.counted, c.loop-word-test.true)) so_far.first;
      counted = length-set masks word 255 ∙ so_far.counted;
      small = small_set masks word 255 so_far.small (omega arith);
    }

pub returns-then-count-gt0-clause-counted : goal.returns-then-count-gt0-clause-counted
returns-then-count-gt0-clause-counted c =
    length-set c.loop-word.masks (c.args.count / 8) _ ∙ c.loop-word.invariant.counted

pub returns-then-count-gt0-clause-small : goal.returns-then-count-gt0-clause-small
returns-then-count-gt0-clause-small c =
    small_set c.loop-word.masks (c.args.count / 8) _ c.loop-word.invariant.small
    (small_ones (c.args.count % 8) (omega arith))

pub returns-then-count-gt0-clause-given : goal.returns-then-count-gt0-clause-given
returns-then-count-gt0-clause-given c =
    let words : c.loop-word.word ≡ c.args.count / 8 = omega arith in
    (first_end c.loop-word.masks c.args.count (omega (arith, c.loop-word.invariant.counted, c.if-count-gt0.true))
    (rw (← words) c.loop-word.invariant.first)).0

pub returns-then-count-gt0-clause-past : goal.returns-then-count-gt0-clause-past
returns-then-count-gt0-clause-past c =
    let words : c.loop-word.word ≡ c.args.count / 8 = omega arith in
    (first_end c.loop-word.masks c.args.count (omega (arith, c.loop-word.invariant.counted, c.if-count-gt0.true))
    (rw (← words) c.loop-word.invariant.first)).1
