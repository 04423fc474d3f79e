use Rattle.std.proofs.Common.{◌≡◌, ◌∙◌, ◌<◌, ◌≤◌, ◌+◌, ◌*◌, ◌%◌, ◌^◌, ℕ, List, Option, length, take, drop, ap, arith}
use Rattle.tl_ops.specs.Number.{low_bytes}
use Rattle.tl_ops.specs.Cell.{bytes_of_word}
use Rattle.tl_ops.specs.Store.{with_window}
use Rattle.tl_ops.specs.Window.{new_window}
use Rattle.tl_ops.specs.declared.kind.Kind.TheVariants.{Ram}
use Rattle.tl_ops.proofs.Parts.{word_of-only}
use Rattle.tl_ops.proofs.lanes.Lanes.update.Goals as goal

-- the only word is the whole request
only : (given : List (Option ℕ)) (lane : ℕ) → lane + length given ≤ 8 → bytes_of_word given 0 ≡ given
only given lane in_word = word_of-only given (omega (arith, in_word))

pub new_cell-requires-clause-old : goal.new_cell-requires-clause-old
new_cell-requires-clause-old c =
    rw (
      only c.args.given.now (c.args.start % 8) c.requires.in_word,
      ← c.len-width.ensures.value,
    ) c.cell-old.ensures.fits

pub set_cell-requires-clause-fits : goal.set_cell-requires-clause-fits
set_cell-requires-clause-fits c =
    let whole = only c.args.given.now (c.args.start % 8) c.requires.in_word in
    let fits : c.new_cell.result < 2 ^ (8 * length c.args.given.now) = rw whole at c.new_cell.ensures.fits in
    rw c.len-width.ensures.value fits

pub returns-clause-bytes : goal.returns-clause-bytes
returns-clause-bytes c = rw c.len-width.ensures.value at c.cell-old.ensures.bytes

pub returns-clause-after : goal.returns-clause-after
returns-clause-after c =
    let now = c.args.self.now in
    let given = c.args.given.now in
    let whole = only given (c.args.start % 8) c.requires.in_word in
    let made : low_bytes (length given) c.new_cell.result ≡ new_window Ram c.args.op
    (low_bytes (length given) c.cell-old.result) given = rw whole at c.new_cell.ensures.bytes in
    let old : low_bytes (length given) c.cell-old.result ≡ take (length given) (drop c.args.start now) =
    rw c.len-width.ensures.value at c.cell-old.ensures.bytes in
    let bytes = ap (λ n. low_bytes n c.new_cell.result) c.len-width.ensures.value ∙ made
    ∙ ap (λ was. new_window Ram c.args.op was given) old in
    c.set_cell.ensures.after ∙ ap (λ new. with_window now c.args.start new) bytes
