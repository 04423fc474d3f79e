-- The first comma, or none.
use Rattle.std.proofs.Common.{◌≡◌, ◌<◌, ◌+◌, ◌-◌, length, take, drop, arith, length-drop, take_all}
use Rattle.check_rows.proofs.ColumnLemmas.{parts-cut, parts-whole}
use Rattle.check_rows.proofs.column.cut_part.Goals as goal

pub returns-then-length-text-clause-none : goal.returns-then-length-text-clause-none
returns-then-length-text-clause-none c =
    let all = c.if-length-text.true in
    parts-whole c.args.text.now (λ place below. c.part_length-length.ensures.plain place (omega (arith, all, below)))

pub returns-clause-some : goal.returns-clause-some
returns-clause-some c =
    let text = c.args.text.now in
    let n = c.part_length-length.result in
    let low = c.part_length-length.ensures.inside in
    let other = c.if-length-text.false in
    let inside : n < length text = omega (arith, low, other) in
    let rest : take (length text - (n + 1)) (drop (n + 1) text) ≡ drop (n + 1) text =
    take_all (length text - (n + 1)) (drop (n + 1) text) (omega (arith, length-drop (n + 1) text)) in
    rw rest (parts-cut text n inside c.part_length-length.ensures.plain (c.part_length-length.ensures.ends inside))
