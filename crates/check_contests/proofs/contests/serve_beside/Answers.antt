use Rattle.std.proofs.Common.{◌≡◌, ◌∙◌, true, false, sym, ap}
use Rattle.tl_types.specs.Request.{Request}
use Rattle.check_memory.specs.Pattern.{Pattern}
use Rattle.check_memory.specs.declared.slave.Slave.TheVariants.{Memory}
use Rattle.check_contests.specs.Sent.{expected_of_sent}
use Rattle.check_contests.specs.Contests.{due_beside, one_may_write}
use Rattle.check_contests.proofs.Beside.{left_beside, expected_beside, due_then}
use Rattle.check_contests.proofs.contests.serve_beside.Goals as goal
use Rattle.check_contests.proofs.contests.serve_beside.Goals.{then-is_corrupt+in_ok-serve_corrupt, else-is_corrupt+in_ok-serve_contested}

pub returns-clause-after : goal.returns-clause-after
returns-clause-after c =
    let memory = c.args.memory.now in
    let kept = c.args.kept.now in
    let sent = c.args.sent.now in
    let ask = c.ask-ask.result.now in
    let now = c.if-is_corrupt.memory in
    elim c.if-is_corrupt.branch [
      | then-is_corrupt+in_ok-serve_corrupt w ↦
          left_beside memory now kept sent ask true (sym c.is_corrupt.ensures ∙ w.if-is_corrupt.true) c.ask-ask.ensures
          (w.memory-is ∙ w.in_ok-serve_corrupt.ensures.after)
      | else-is_corrupt+in_ok-serve_contested w ↦
          left_beside memory now kept sent ask false (sym c.is_corrupt.ensures ∙ w.if-is_corrupt.false) c.ask-ask.ensures
          (w.memory-is ∙ w.in_ok-serve_contested.ensures.after)
    ]

pub returns-clause-due : goal.returns-clause-due
returns-clause-due c =
    let memory = c.args.memory.now in
    let kept = c.args.kept.now in
    let sent = c.args.sent.now in
    let ask = c.ask-ask.result.now in
    let now = c.if-is_corrupt.due in
    let expected : now ≡ expected_of_sent (Memory memory) sent =
    elim c.if-is_corrupt.branch [
      | then-is_corrupt+in_ok-serve_corrupt w ↦
          expected_beside memory now sent ask true (sym c.is_corrupt.ensures ∙ w.if-is_corrupt.true) c.ask-ask.ensures
          (w.due-is ∙ w.in_ok-serve_corrupt.ensures.pattern)
      | else-is_corrupt+in_ok-serve_contested w ↦
          expected_beside memory now sent ask false (sym c.is_corrupt.ensures ∙ w.if-is_corrupt.false) c.ask-ask.ensures
          (w.due-is ∙ w.in_ok-serve_contested.ensures.pattern)
    ] in
    c.hide_each.ensures
    ∙ due_then memory c.if-is_corrupt.memory kept sent ask now (returns-clause-after c)
    ∙ ap (λ (x : Request). due_beside memory x (one_may_write memory kept) now) c.ask-ask.ensures
    ∙ ap (λ (due : Pattern). due_beside memory sent.ask (one_may_write memory kept) due) expected
