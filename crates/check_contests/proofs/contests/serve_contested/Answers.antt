use Rattle.std.proofs.Common.{◌≡◌, ◌∙◌, sym, ap, subst}
use Rattle.std.specs.Prelude.{IfOk}
use Rattle.tl_types.specs.Operation.{carries_bytes}
use Rattle.check_memory.specs.Partial.{Partial, after_partial}
use Rattle.check_contests.proofs.Forgetting.{not_taken, denied_is}
use Rattle.check_contests.proofs.contests.serve_contested.Goals as goal
use Rattle.check_contests.proofs.contests.serve_contested.Goals.{else-carries_bytes-via-then-carries_bytes+else-permits, else-carries_bytes-via-else-carries_bytes}

pub returns-else-carries_bytes-clause-after : goal.returns-else-carries_bytes-clause-after
returns-else-carries_bytes-clause-after c =
    let memory = c.args.memory.now in
    let kept = c.args.kept.now in
    let ask = c.args.ask.now in
    let P : Partial → Type 0 = λ m. IfOk c.serve_into.result (λ _. c.serve_into.new.self ≡ m) in
    subst P
    (elim c.else-carries_bytes.branch [
      | else-carries_bytes-via-then-carries_bytes+else-permits w ↦
          denied_is memory kept ask (after_partial memory ask) (sym w.permits.ensures ∙ w.if-permits.false)
      | else-carries_bytes-via-else-carries_bytes w ↦
          not_taken memory kept ask (after_partial memory ask)
          (ap carries_bytes (sym c.op.ensures) ∙ sym c.carries_bytes.ensures ∙ w.if-carries_bytes.false)
    ])
    c.serve_into.ensures.after
