use Rattle.std.proofs.Common.{◌≡◌, ◌∙◌, ◌↔◌, true, length, sym, ap, subst}
use Rattle.tl_types.specs.Request.{Request}
use Rattle.tl_types.specs.Operation.{carries_bytes}
use Rattle.check_contests.proofs.Dues.{stays_carrying, stays_far, stays_denied, stays_by_denied}
use Rattle.check_contests.proofs.Near.{IsNear}
use Rattle.check_contests.proofs.due.hide.Goals as goal
use Rattle.check_contests.proofs.due.hide.Goals.{else-carries_bytes-via-then-carries_bytes+then-is_near+then-permits+else-permits-2, else-carries_bytes-via-then-carries_bytes+then-is_near+else-permits, else-carries_bytes-via-then-carries_bytes+else-is_near, else-carries_bytes-via-else-carries_bytes}

pub returns-else-carries_bytes : goal.returns-else-carries_bytes
returns-else-carries_bytes c =
    let memory = c.args.memory.now in
    let ask = c.args.ask.now in
    let other = c.args.other.now in
    let due = c.args.due.now in
    elim c.else-carries_bytes.branch [
      | else-carries_bytes-via-then-carries_bytes+then-is_near+then-permits+else-permits-2 w ↦
          stays_by_denied memory ask other due (sym w.permits-then-permits.ensures ∙ w.if-permits-2.false)
      | else-carries_bytes-via-then-carries_bytes+then-is_near+else-permits w ↦ stays_denied memory ask other due
          (sym w.permits.ensures ∙ w.if-permits.false)
      | else-carries_bytes-via-then-carries_bytes+else-is_near w ↦
          stays_far memory ask other due c.start-start.result w.len.result w.is_near.result
          (let P : Request → Type 0 = λ there. (w.is_near.result ≡ true) ↔ IsNear there c.start-start.result w.len.result in
          subst P c.of-there.ensures.value w.is_near.ensures.near) w.if-is_near.false
          c.start-start.ensures.value (w.len.ensures.value ∙ ap (λ p. length p.bytes) c.due.view_is)
      | else-carries_bytes-via-else-carries_bytes w ↦ stays_carrying memory ask other due
          (ap carries_bytes (sym c.op.ensures) ∙ sym c.carries_bytes.ensures ∙ w.if-carries_bytes.false)
    ]
