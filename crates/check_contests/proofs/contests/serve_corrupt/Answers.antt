use Rattle.std.proofs.Common.{◌∙◌, sym, ap}
use Rattle.tl_types.specs.Operation.{carries_bytes}
use Rattle.check_contests.specs.Cut.{memory_cut}
use Rattle.check_contests.proofs.Cutting.{denied_cut, carrying_cut}
use Rattle.check_contests.proofs.Forgetting.{not_taken, denied_is}
use Rattle.check_contests.proofs.contests.serve_corrupt.Goals as goal
use Rattle.check_contests.proofs.contests.serve_corrupt.Goals.{then-carries_bytes+then-permits+in_ok-forget_corrupt, else-carries_bytes, else-carries_bytes-via-then-carries_bytes+else-permits, else-carries_bytes-via-else-carries_bytes}

pub returns-clause-after : goal.returns-clause-after
returns-clause-after c =
    let memory = c.args.memory.now in
    let kept = c.args.kept.now in
    let ask = c.args.ask.now in
    elim c.if-carries_bytes.branch [
      | then-carries_bytes+then-permits+in_ok-forget_corrupt w ↦ w.memory-is ∙ w.in_ok-forget_corrupt.ensures.after
      | else-carries_bytes w ↦
          w.memory-is
          ∙ elim w.else-carries_bytes.branch [
            | else-carries_bytes-via-then-carries_bytes+else-permits w' ↦
                let none = sym w'.permits.ensures ∙ w'.if-permits.false in
                denied_cut memory ask none ∙ denied_is memory kept ask (memory_cut memory ask) none
            | else-carries_bytes-via-else-carries_bytes w' ↦
                let none =
                ap carries_bytes (sym c.op.ensures) ∙ sym c.carries_bytes.ensures ∙ w'.if-carries_bytes.false in
                carrying_cut memory ask none ∙ not_taken memory kept ask (memory_cut memory ask) none
          ]
    ]
