use Rattle.std.proofs.Common.{◌≡◌, ◌∙◌, ◌^◌, ◌<◌, true, length, sym, ap, subst, rules}
use Rattle.tl_types.specs.Operation.{carries_bytes}
use Rattle.std.specs.Prelude.{OnOk}
use Rattle.check_memory.specs.Partial.{Partial, permits}
use Rattle.check_contests.proofs.Cutting.{cut_is, denied_cut, carrying_cut}
use Rattle.check_contests.proofs.cut.cut_memory.Goals as goal
use Rattle.check_contests.proofs.cut.cut_memory.Goals.{then-not-carries_bytes-via-then-not-carries_bytes, then-not-carries_bytes-via-else-not-carries_bytes+then-not-permits_so_far}

pub returns-then-not-carries_bytes-clause-cut : goal.returns-then-not-carries_bytes-clause-cut
returns-then-not-carries_bytes-clause-cut c =
    let memory = c.args.memory.now in
    let ask = c.args.ask.now in
    elim c.then-not-carries_bytes.branch [
      | then-not-carries_bytes-via-then-not-carries_bytes w ↦
          carrying_cut memory ask
          (ap carries_bytes (sym c.op.ensures) ∙ sym c.carries_bytes.ensures ∙ w.if-not-carries_bytes.true)
      | then-not-carries_bytes-via-else-not-carries_bytes+then-not-permits_so_far w ↦
          denied_cut memory ask (sym w.permits_so_far.ensures ∙ w.if-not-permits_so_far.true)
    ]

pub returns-clause-cut : goal.returns-clause-cut
returns-clause-cut c =
    let memory = c.args.memory.now in
    let ask = c.args.ask.now in
    let start = c.start_so_far.result in
    let flags = c.mark_written.new.flags in
    let P : Partial → Type 0 = λ m. OnOk c.forget.result (c.forget.new.self ≡ m) in
    let legal : permits memory ask ≡ true = search rules in
    let wide : length flags ≡ 2 ^ ask.size = search rules in
    subst P
    (cut_is memory ask start flags c.start_so_far.ensures.value legal wide
    (λ k below. c.mark_written.ensures.flags start k (subst (λ n. k < n) c.mark_written.ensures.len below)))
    c.forget.ensures.after
