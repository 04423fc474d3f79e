-- One digit, or none.
use Rattle.std.proofs.Common.{◌≡◌, ◌∙◌, Bool, true, false, if◌then◌else◌, Ok, refl, sym, ap}
use mir.Val.{bool_byte}
use Rattle.check_rows.proofs.FrontLemmas.{empty-alone, flag-plain, mark-absent, mark-given}
use Rattle.check_rows.proofs.front.last_mark.Goals as goal

-- a flag as a number
as-number : (flag : Bool) → (if flag then 1 else 0) ≡ bool_byte flag
as-number true = refl
as-number false = refl

pub returns-then-is_empty-clause-value : goal.returns-then-is_empty-clause-value
returns-then-is_empty-clause-value c = mark-absent c.args.text.now (sym c.if-is_empty.ensures)

pub returns-then-is_empty-clause-last : goal.returns-then-is_empty-clause-last
returns-then-is_empty-clause-last c = empty-alone c.args.text.now (sym c.if-is_empty.ensures)

pub returns-in-Ok-clause-value : goal.returns-in-Ok-clause-value
returns-in-Ok-clause-value c =
    mark-given c.args.text.now c.in-Ok.flag (sym c.in-Ok.ensures) ∙ ap (λ n. Ok n) (as-number c.in-Ok.flag)

pub returns-in-Ok-clause-last : goal.returns-in-Ok-clause-last
returns-in-Ok-clause-last c = flag-plain c.args.text.now c.in-Ok.flag (sym c.in-Ok.ensures)
