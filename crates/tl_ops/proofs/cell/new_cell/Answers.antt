use Rattle.std.proofs.Common.{◌≡◌, ◌∙◌, ◌-◌, ◌<◌, ◌*◌, ◌^◌, ℕ, List, Option, min, length, bit_and, sym, ap, arith}
use Rattle.std.proofs.lemmas.Nat.{or_lt, and_le_l}
use Rattle.tl_ops.proofs.Bytes.{low_bytes-and, low_bytes-or}
use Rattle.tl_ops.proofs.Givens.{merged_by_masks, new_window-put}
use Rattle.tl_ops.proofs.Parts.{length-word_of}
use Rattle.tl_ops.specs.Number.{low_bytes}
use Rattle.tl_ops.specs.Cell.{bytes_of_word}
use Rattle.tl_ops.specs.Window.{combine_arith, combine_logic}
use Rattle.tl_ops.specs.declared.kind.Kind.TheVariants.{Ram}
use Rattle.tl_ops.proofs.cell.new_cell.Goals as goal

same_width : (given : List (Option ℕ)) (word len width : ℕ) → len ≡ length given → width ≡ min (len - 8 * word) 8
    → width ≡ length (bytes_of_word given word)
same_width given word len width len_is width_is =
    sym (length-word_of given word width (omega (arith, len_is, width_is)))

pub returns-in-PutFull-clause-fits : goal.returns-in-PutFull-clause-fits
returns-in-PutFull-clause-fits c =
    let given = c.given_word-operand.result in
    let width = length (bytes_of_word c.args.bytes.now c.args.word) in
    let kept : bit_and c.args.old given.keep < 2 ^ (8 * width) =
    omega (arith, and_le_l c.args.old given.keep, c.requires.old) in
    or_lt (8 * width) (bit_and c.args.old given.keep) given.bytes kept c.given_word-operand.ensures.fits

pub returns-in-PutFull-clause-bytes : goal.returns-in-PutFull-clause-bytes
returns-in-PutFull-clause-bytes c =
    let part = bytes_of_word c.args.bytes.now c.args.word in
    let width = length part in
    let given = c.given_word-operand.result in
    rw (
      new_window-put Ram c.args.op (low_bytes width c.args.old) part c.in-PutFull.is,
      low_bytes-or width (bit_and c.args.old given.keep) given.bytes,
      low_bytes-and width c.args.old given.keep,
      c.given_word-operand.ensures.bytes,
      c.given_word-operand.ensures.keep,
    ) (merged_by_masks part c.args.old)

pub combine_arith-requires-clause-old : goal.combine_arith-requires-clause-old
combine_arith-requires-clause-old c =
    rw (same_width c.args.bytes.now c.args.word c.len-len.result c.min-width.result c.len-len.ensures.value c.min-width.ensures) c.requires.old

pub combine_arith-requires-clause-operand : goal.combine_arith-requires-clause-operand
combine_arith-requires-clause-operand c =
    rw (same_width c.args.bytes.now c.args.word c.len-len.result c.min-width.result c.len-len.ensures.value c.min-width.ensures) c.given_word-operand.ensures.fits

pub returns-in-Arithmetic-clause-bytes : goal.returns-in-Arithmetic-clause-bytes
returns-in-Arithmetic-clause-bytes c =
    let part = bytes_of_word c.args.bytes.now c.args.word in
    let width = same_width c.args.bytes.now c.args.word c.len-len.result c.min-width.result c.len-len.ensures.value c.min-width.ensures in
    let operand = ap (λ n. low_bytes n c.given_word-operand.result.bytes) width ∙ c.given_word-operand.ensures.bytes in
    rw (← width, c.in-Arithmetic.is) (c.combine_arith.ensures.bytes
    ∙ ap (combine_arith c.in-Arithmetic.op (low_bytes c.min-width.result c.args.old)) operand)

pub combine_logic-requires-clause-old : goal.combine_logic-requires-clause-old
combine_logic-requires-clause-old c =
    rw (same_width c.args.bytes.now c.args.word c.len-len.result c.min-width.result c.len-len.ensures.value c.min-width.ensures) c.requires.old

pub combine_logic-requires-clause-operand : goal.combine_logic-requires-clause-operand
combine_logic-requires-clause-operand c =
    rw (same_width c.args.bytes.now c.args.word c.len-len.result c.min-width.result c.len-len.ensures.value c.min-width.ensures) c.given_word-operand.ensures.fits

pub returns-in-Logical-clause-bytes : goal.returns-in-Logical-clause-bytes
returns-in-Logical-clause-bytes c =
    let part = bytes_of_word c.args.bytes.now c.args.word in
    let width = same_width c.args.bytes.now c.args.word c.len-len.result c.min-width.result c.len-len.ensures.value c.min-width.ensures in
    let operand = ap (λ n. low_bytes n c.given_word-operand.result.bytes) width ∙ c.given_word-operand.ensures.bytes in
    rw (← width, c.in-Logical.is) (c.combine_logic.ensures.bytes
    ∙ ap (combine_logic c.in-Logical.op (low_bytes c.min-width.result c.args.old)) operand)
