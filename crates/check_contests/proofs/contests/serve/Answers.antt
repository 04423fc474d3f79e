use Rattle.std.proofs.Common.{◌≡◌, ◌∙◌, sym, subst}
use Rattle.std.specs.Prelude.{IfOk}
use Rattle.check_memory.specs.declared.slave.Slave.{Slave}
use Rattle.check_memory.specs.Pattern.{Pattern}
use Rattle.check_contests.proofs.Beside.{alone_leaves, alone_due}
use Rattle.check_contests.proofs.contests.serve.Goals as goal

pub returns-then-is_empty-clause-after : goal.returns-then-is_empty-clause-after
returns-then-is_empty-clause-after c =
    let P : Slave → Type 0 = λ s. IfOk c.serve_sent.result (λ _. c.serve_sent.new.slave ≡ s) in
    subst P (alone_leaves c.args.slave.now c.args.kept.now c.args.sent.now (sym c.is_empty.ensures ∙ c.if-is_empty.true))
    c.serve_sent.ensures.after

pub returns-then-is_empty-clause-due : goal.returns-then-is_empty-clause-due
returns-then-is_empty-clause-due c =
    let P : Pattern → Type 0 = λ p. IfOk c.serve_sent.result (λ _. c.serve_sent.new.answer ≡ p) in
    subst P (alone_due c.args.slave.now c.args.kept.now c.args.sent.now (sym c.is_empty.ensures ∙ c.if-is_empty.true))
    c.serve_sent.ensures.expected
