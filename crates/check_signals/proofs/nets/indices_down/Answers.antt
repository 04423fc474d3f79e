-- One index more.
use Rattle.std.proofs.Common.{◌∙◌, ◌-◌, ◌++◌, ◌∷◌, [], ap, arith, sym}
use Rattle.std.proofs.lemmas.List.FromFn.{map-range_with_len_more}
use Rattle.check_signals.specs.Nets.{indices_down}
use Rattle.check_signals.proofs.nets.indices_down.Goals as goal

pub loop-step-preserved : goal.loop-step-preserved
loop-step-preserved c =
    let from = c.args.from in
    let step = c.loop-step.step in
    c.in_ok-push.ensures.items
    ∙ ap (λ indices. indices ++ c.saturating_sub.result ∷ []) c.loop-step.invariant
    ∙ ap (λ index. indices_down from step ++ index ∷ []) c.saturating_sub.ensures
    ∙ sym (map-range_with_len_more (λ k. from - k) 0 step step (omega arith))
