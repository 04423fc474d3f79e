use Rattle.std.proofs.Common.{◌∙◌, ◌+◌, ◌*◌, ◌/◌, ◌%◌, ◌^◌, ◌<◌, slice_index, ap, arith, length}
use Rattle.check_cells.proofs.Bits.{word_here, word_there, ones_moved, set_inside, set_outside, clear_inside, clear_outside, cell_small}
use Rattle.check_cells.proofs.masks.mark_cell.Goals as goal
use Rattle.check_cells.proofs.masks.mark_cell.Goals.{then-known, else-known}

pub returns-clause-inside : goal.returns-clause-inside
returns-clause-inside c = λ k below.
    let s = c.args.start % 8 in
    let within : c.args.start / 8 < length c.args.masks.now = omega (arith, c.requires.inside, c.requires.some) in
    let in_word : s + k < 8 = omega (arith, c.requires.in_word, below) in
    let m = slice_index c.args.masks.now (c.args.start / 8) in
    let moved = ap (λ o. o * 2 ^ s % 256) c.ones.ensures.value ∙ ones_moved s c.args.width c.requires.in_word in
    elim c.if-known.branch [
      | then-known w ↦ rw (w.if-known.true, w.masks-is, moved)
          (word_here c.args.masks.now c.args.start _ k within in_word
          ∙ set_inside m s (s + c.args.width) (s + k) (omega arith) (omega (arith, below)))
      | else-known w ↦ rw (w.if-known.false, w.masks-is, moved)
          (word_here c.args.masks.now c.args.start _ k within in_word
          ∙ clear_inside m s (s + c.args.width) (s + k) (cell_small s c.args.width c.requires.in_word) in_word
          (omega arith) (omega (arith, below)))
    ]

pub returns-clause-outside : goal.returns-clause-outside
returns-clause-outside c = λ place where_.
    let s = c.args.start % 8 in
    let within : c.args.start / 8 < length c.args.masks.now = omega (arith, c.requires.inside, c.requires.some) in
    let m = slice_index c.args.masks.now (c.args.start / 8) in
    let moved = ap (λ o. o * 2 ^ s % 256) c.ones.ensures.value ∙ ones_moved s c.args.width c.requires.in_word in
    elim c.if-known.branch [
      | then-known w ↦ rw (w.masks-is, moved)
          (word_there c.args.masks.now c.args.start c.args.width _ within c.requires.in_word
          (λ i lane beside. set_outside m s (s + c.args.width) i beside) place where_)
      | else-known w ↦ rw (w.masks-is, moved)
          (word_there c.args.masks.now c.args.start c.args.width _ within c.requires.in_word
          (λ i lane beside. clear_outside m s (s + c.args.width) i
          (cell_small s c.args.width c.requires.in_word) lane beside) place where_)
    ]
