use Rattle.std.proofs.Common.{rules, ◌∙◌, ◌+◌, ◌%◌, ◌*◌, ◌^◌}
use Rattle.std.proofs.lemmas.Nat.{and_mask}
use Rattle.tl_ops.proofs.Bytes.{number-low_bytes, length-low_bytes, low_bytes-mod, low_bytes-mod_word}
use Rattle.tl_ops.proofs.cell.combine_arith.Goals.{in-Min, in-Max, in-MinU, in-MaxU}
use Rattle.tl_ops.proofs.cell.combine_arith.Goals as goal

pub returns-in-Add-clause-bytes : goal.returns-in-Add-clause-bytes
returns-in-Add-clause-bytes c =
    let sum = c.args.old + c.args.operand in
    let old = number-low_bytes c.args.width c.args.old c.requires.old in
    let operand = number-low_bytes c.args.width c.args.operand c.requires.operand in
    rw (
      c.in-Add.is,
      c.cell_mask.ensures,
      and_mask (sum % 2 ^ 64) (8 * c.args.width),
      old,
      operand,
      length-low_bytes c.args.width c.args.old,
    )
    (low_bytes-mod c.args.width (sum % 2 ^ 64) ∙ low_bytes-mod_word c.args.width sum c.requires.in_word)

pub returns-then-first-clause-bytes : goal.returns-then-first-clause-bytes
returns-then-first-clause-bytes c =
    let old = number-low_bytes c.args.width c.args.old c.requires.old in
    let operand = number-low_bytes c.args.width c.args.operand c.requires.operand in
    elim c.match-op.branch [
      | in-Min w ↦ search rules
      | in-Max w ↦ search rules
      | in-MinU w ↦ search
          (rules, old, operand)
      | in-MaxU w ↦ search (rules, old, operand)
    ]

pub returns-else-first-clause-bytes : goal.returns-else-first-clause-bytes
returns-else-first-clause-bytes c =
    let old = number-low_bytes c.args.width c.args.old c.requires.old in
    let operand = number-low_bytes c.args.width c.args.operand c.requires.operand in
    elim c.match-op.branch [
      | in-Min w ↦ search rules
      | in-Max w ↦ search rules
      | in-MinU w ↦ search
          (rules, old, operand)
      | in-MaxU w ↦ search (rules, old, operand)
    ]
