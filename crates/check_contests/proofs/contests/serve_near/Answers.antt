use Rattle.std.proofs.Common.{◌≡◌, ◌⊎◌, ℕ, ◌+◌, ◌<◌, ◌≤◌, false, subst, arith}
use Rattle.std.specs.Prelude.{IfOk}
use Rattle.std.proofs.lemmas.List.{get_or-replicate}
use Rattle.check_memory.specs.Partial.{Partial}
use Rattle.check_memory.proofs.Legal.{takes_legal}
use Rattle.check_contests.proofs.Blocks.{near_reaches}
use Rattle.check_contests.proofs.Forgetting.{forgetting_is}
use Rattle.check_contests.proofs.contests.serve_near.Goals as goal

pub mark_all-requires-clause-reaches : goal.mark_all-requires-clause-reaches
mark_all-requires-clause-reaches c =
    let memory = c.args.memory.now in
    let ask = c.args.ask.now in
    let legal = takes_legal memory ask c.requires.takes in
    near_reaches memory ask c.start.result c.near-first.result c.start.ensures.value
    (omega (arith, c.width-in_limit.ensures.in_limit, c.width-in_limit.ensures.value))
    (c.start.ensures.in_space legal) c.near-first.ensures.below c.near-first.ensures.reach c.near-first.ensures.before

pub mark_all-requires-clause-fresh : goal.mark_all-requires-clause-fresh
mark_all-requires-clause-fresh c = λ k below. get_or-replicate 768 k false false below

pub returns-clause-after : goal.returns-clause-after
returns-clause-after c =
    let memory = c.args.memory.now in
    let ask = c.args.ask.now in
    let first = c.near-first.result in
    let P : Partial → Type 0 = λ m. IfOk c.serve_and_forget.result (λ _. c.serve_and_forget.new.self ≡ m) in
    subst P
    (forgetting_is memory c.args.kept.now ask first c.mark_all.new.flags c.requires.takes
    (λ k below. c.mark_all.ensures.flags k (subst (λ n. k < n) c.mark_all.ensures.len below))
    (λ a beside. c.mark_all.ensures.outside a
    (subst (λ (n : ℕ). (a < first) ⊎ (first + n ≤ a)) c.mark_all.ensures.len beside)))
    c.serve_and_forget.ensures.after
