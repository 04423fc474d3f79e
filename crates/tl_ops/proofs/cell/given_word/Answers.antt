use Rattle.std.proofs.Common.{◌≡◌, ◌+◌, ◌-◌, ◌*◌, min, length, arith}
use Rattle.tl_ops.proofs.Parts.{spelled_word, kept_word}
use Rattle.tl_ops.proofs.cell.given_word.Goals as goal

pub returns-clause-bytes : goal.returns-clause-bytes
returns-clause-bytes c =
    let n = c.min-count.result in
    let n_is : n ≡ min (length c.args.bytes.now - 8 * c.args.word) 8 =
    omega (arith, c.min-count.ensures, c.len-len.ensures.value) in
    spelled_word c.args.bytes.now c.plain.result.now c.args.word n
    (8 * c.args.word + n - 8 * c.args.word) c.spelled.result c.plain.ensures n_is
    (omega arith) c.spelled.ensures.value

pub returns-clause-keep : goal.returns-clause-keep
returns-clause-keep c =
    kept_word c.args.bytes.now c.args.word c.mask.result c.kept_lanes.result c.mask.ensures c.kept_lanes.ensures
