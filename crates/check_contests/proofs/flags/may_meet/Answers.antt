use Rattle.std.proofs.Common.{◌∙◌, sym, ap, subst}
use Rattle.tl_types.specs.Operation.{carries_bytes}
use Rattle.tl_types.specs.Request.{Request}
use Rattle.check_contests.proofs.Blocks.{near_share, met_legal, met_near, met_carries}
use Rattle.check_contests.proofs.Clash.{not_both}
use Rattle.check_contests.proofs.Near.{IsNear}
use Rattle.check_contests.proofs.flags.may_meet.Goals as goal
use Rattle.check_contests.proofs.flags.may_meet.Goals.{then-carries_bytes, else-carries_bytes}

pub returns-then-is_near-clause-met : goal.returns-then-is_near-clause-met
returns-then-is_near-clause-met c met =
    c.permits.ensures ∙ met_legal c.args.memory.now c.args.ask.now c.args.other.now met

pub returns-then-is_near-clause-shares : goal.returns-then-is_near-clause-shares
returns-then-is_near-clause-shares c is =
    elim c.if-carries_bytes.branch [
      | then-carries_bytes w ↦
          let P : Request → Type 0 = λ there. IsNear there w.start.result w.width.result in
          near_share c.args.memory.now c.args.ask.now c.args.other.now w.start.result w.width.result w.start.ensures.value
          w.width.ensures.value
          (subst P c.of-there.ensures.value (w.is_near.ensures.near.0 (sym w.value-is ∙ c.if-is_near.true)))
      | else-carries_bytes w ↦ not_both c.if-is_near.true (w.value-is ∙ w.if-carries_bytes.false)
    ]

pub returns-else-is_near-clause-met : goal.returns-else-is_near-clause-met
returns-else-is_near-clause-met c met =
    let memory = c.args.memory.now in
    let ask = c.args.ask.now in
    let other = c.args.other.now in
    elim c.if-carries_bytes.branch [
      | then-carries_bytes w ↦
          let P : Request → Type 0 = λ there. IsNear there w.start.result w.width.result in
          w.value-is
          ∙ w.is_near.ensures.near.1
          (subst P (sym c.of-there.ensures.value)
          (met_near memory ask other w.start.result w.width.result met w.start.ensures.value w.width.ensures.value))
      | else-carries_bytes w ↦
          not_both (c.carries_bytes.ensures ∙ ap carries_bytes c.op.ensures ∙ met_carries memory ask other met)
          w.if-carries_bytes.false
    ]
