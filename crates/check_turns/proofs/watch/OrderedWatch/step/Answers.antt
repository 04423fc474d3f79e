-- A beat that is in turn is judged where it crosses.
use Rattle.std.proofs.Common.{◌≡◌, ◌∙◌, true, false, sym, subst}
use Rattle.std.specs.Prelude.{Err, Ok, Result}
use Rattle.check_watch.specs.declared.fault.StepError.{StepError}
use Rattle.check_watch.specs.declared.seen.Seen.{Seen}
use Rattle.check_watch.specs.Plan.{seen_at}
use Rattle.check_watch.proofs.Stepping.{unlawful_step}
use Rattle.check_sides.specs.Steps as sides
use Rattle.check_sides.specs.View as sides_view
use Rattle.check_turns.specs.Turns.{IsInTurn}
use Rattle.check_turns.specs.View.{KeepsOrdered}
use Rattle.check_turns.proofs.Judging.{step_on}
use Rattle.check_turns.proofs.watch.OrderedWatch.step.Goals as goal

pub returns-then-not-is_in_turn-clause-judged : goal.returns-then-not-is_in_turn-clause-judged
returns-then-not-is_in_turn-clause-judged c plan past keeps =
    let x = seen_at c.args.link c.args.beat.now c.args.known c.args.lanes.now in
    let takes = c.takes_turn-takes_turn.ensures plan past c.args.known c.args.lanes.now keeps in
    let out : IsInTurn plan past x → ⊥ =
    λ in_turn.
    let is_in : c.is_in_turn.result ≡ true = (c.is_in_turn.ensures plan past c.args.known c.args.lanes.now keeps takes).1 in_turn in
    let is_out : c.is_in_turn.result ≡ false = c.if-not-is_in_turn.true in
    let wrong : true ≡ false = sym is_in ∙ is_out in
    absurd (cc) in
    unlawful_step _ _ _ _ _ c.turn_fault.result (λ lawful. out lawful.turns.1) (c.turn_fault.ensures plan past keeps out)

pub returns-in-Err-clause-judged : goal.returns-in-Err-clause-judged
returns-in-Err-clause-judged c plan past keeps =
    let x = seen_at c.args.link c.args.beat.now c.args.known c.args.lanes.now in
    let inside = subst (KeepsOrdered plan past) (sym c.self.view_is) keeps in
    let takes = c.takes_turn-takes_turn.ensures plan past c.args.known c.args.lanes.now keeps in
    let in_turn : IsInTurn plan past x =
    (c.is_in_turn.ensures plan past c.args.known c.args.lanes.now keeps takes).0 c.if-not-is_in_turn.false in
    step_on plan past x c.args.self.now keeps in_turn c.step.new.self c.self.inside.turns c.step.new.self.layout
    (c.step.ensures.layout ∙ inside.suits.layout) (Err c.in-Err.refused)
    (subst (λ (r : Result Seen StepError). sides.IsStepAfter plan past x c.step.new.self r) c.in-Err.is
    (c.step.ensures.judged plan past inside.beats)) tt

pub returns-clause-judged : goal.returns-clause-judged
returns-clause-judged c plan past keeps =
    let x = seen_at c.args.link c.args.beat.now c.args.known c.args.lanes.now in
    let inside = subst (KeepsOrdered plan past) (sym c.self.view_is) keeps in
    let takes = c.takes_turn-takes_turn.ensures plan past c.args.known c.args.lanes.now keeps in
    let in_turn : IsInTurn plan past x =
    (c.is_in_turn.ensures plan past c.args.known c.args.lanes.now keeps takes).0 c.if-not-is_in_turn.false in
    step_on plan past x c.args.self.now keeps in_turn c.note.new.self.beats c.note.new.self.turns c.note.new.self.layout
    (c.note.ensures.layout ∙ c.step.ensures.layout ∙ inside.suits.layout) (Ok c.in-Ok.seen)
    (subst (λ (v : sides_view.View). sides.IsStepAfter plan past x v (Ok c.in-Ok.seen)) (sym c.note.ensures.beats)
    (subst (λ (r : Result Seen StepError). sides.IsStepAfter plan past x c.step.new.self r) c.in-Ok.is
    (c.step.ensures.judged plan past inside.beats)))
    (c.note.ensures.turns plan past c.args.known c.args.lanes.now inside.turns takes in_turn)
