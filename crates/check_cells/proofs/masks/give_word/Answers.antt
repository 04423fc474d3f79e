use Rattle.std.proofs.Common.{◌≡◌, ◌∙◌, ◌+◌, ◌-◌, ◌*◌, ◌/◌, ◌%◌, ◌<◌, ◌≤◌, slice_index, get_or, None, ⊎_elim, sym, ap, arith}
use Rattle.std.specs.Int.{bit_at}
use Rattle.tl_types.specs.Bytes.{mask_bit}
use Rattle.std.proofs.lemmas.Option.{unwrap_or-slice_get}
use Rattle.check_cells.specs.Bit.{given_bit}
use Rattle.check_cells.proofs.Bits.{word_here, word_there, bit_in_word, given_here, given_below}
use Rattle.check_cells.proofs.masks.give_word.Goals as goal

pub mask-mask-requires : goal.mask-mask-requires
mask-mask-requires c = omega (arith, c.requires.width, c.requires.limit)

pub returns-clause-inside : goal.returns-clause-inside
returns-clause-inside c = λ lane in_word.
    let s = c.args.start % 8 in
    let m = slice_index c.args.masks.now (c.args.start / 8) in
    let given = get_or c.args.given.now (8 * c.args.k + lane) None in
    let below : lane < 8 = omega (arith, in_word) in
    let bit : bit_at c.mask-mask.result lane ≡ mask_bit given = c.mask-mask.ensures lane below
    ∙ ap mask_bit (unwrap_or-slice_get c.args.given.now (8 * c.args.k + lane) None) in
    word_here c.args.masks.now c.args.start _ lane c.requires.inside in_word
    ∙ given_here m c.mask-mask.result s lane given in_word bit
    ∙ ap (λ b. given_bit b given) (sym (bit_in_word c.args.masks.now c.args.start lane in_word))

pub returns-clause-outside : goal.returns-clause-outside
returns-clause-outside c = λ place where_.
    let s = c.args.start % 8 in
    let m = slice_index c.args.masks.now (c.args.start / 8) in
    let top : s + (8 - s) ≤ 8 = omega arith in
    word_there c.args.masks.now c.args.start (8 - s) _ c.requires.inside top
    (λ i lane beside. ⊎_elim (λ below. given_below m c.mask-mask.result s i lane below)
    (λ past. absurd (omega (arith, lane, past))) beside) place where_
