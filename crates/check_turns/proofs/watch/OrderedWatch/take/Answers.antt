-- A beat that is in turn is taken where it crosses.
use Rattle.std.proofs.Common.{◌≡◌, ◌∙◌, true, false, sym, subst}
use Rattle.std.specs.Prelude.{Err, None, Ok, OnSome, Option, Result, Some}
use Rattle.std.specs.declared.alloc.AllocError.{AllocError}
use Rattle.check_watch.specs.declared.seen.Ended.{Ended}
use Rattle.check_watch.specs.Plan.{seen_at}
use Rattle.check_watch.proofs.Stepping.{unlawful_take}
use Rattle.check_sides.specs.Steps as sides
use Rattle.check_sides.specs.View as sides_view
use Rattle.check_turns.specs.Turns.{IsInTurn}
use Rattle.check_turns.specs.View.{KeepsOrdered}
use Rattle.check_turns.proofs.Judging.{take_on}
use Rattle.check_turns.proofs.watch.OrderedWatch.take.Goals as goal

pub returns-then-not-is_in_turn-clause-taken : goal.returns-then-not-is_in_turn-clause-taken
returns-then-not-is_in_turn-clause-taken c plan past keeps =
    let x = seen_at c.args.link c.args.beat.now c.args.known c.args.lanes.now in
    let takes = c.takes_turn-takes_turn.ensures plan past c.args.known c.args.lanes.now keeps in
    let out : IsInTurn plan past x → ⊥ =
    λ in_turn.
    let is_in : c.is_in_turn.result ≡ true = (c.is_in_turn.ensures plan past c.args.known c.args.lanes.now keeps takes).1 in_turn in
    let is_out : c.is_in_turn.result ≡ false = c.if-not-is_in_turn.true in
    let wrong : true ≡ false = sym is_in ∙ is_out in
    absurd (cc) in
    unlawful_take _ _ _ _ (λ lawful. out lawful.turns.1)

pub returns-in-Err-clause-taken : goal.returns-in-Err-clause-taken
returns-in-Err-clause-taken c plan past keeps =
    let x = seen_at c.args.link c.args.beat.now c.args.known c.args.lanes.now in
    let inside = subst (KeepsOrdered plan past) (sym c.self.view_is) keeps in
    let takes = c.takes_turn-takes_turn.ensures plan past c.args.known c.args.lanes.now keeps in
    let in_turn : IsInTurn plan past x =
    (c.is_in_turn.ensures plan past c.args.known c.args.lanes.now keeps takes).0 c.if-not-is_in_turn.false in
    take_on plan past x c.args.self.now keeps in_turn c.take.new.self c.self.inside.turns c.take.new.self.layout
    (c.take.ensures.layout ∙ inside.suits.layout) (Err c.in-Err.refused)
    (subst (λ (r : Result (Option Ended) AllocError). sides.IsTakeAfter plan past x c.take.new.self r) c.in-Err.is
    (c.take.ensures.taken plan past inside.beats)) tt

pub returns-then-is_some-clause-taken : goal.returns-then-is_some-clause-taken
returns-then-is_some-clause-taken c plan past keeps =
    let x = seen_at c.args.link c.args.beat.now c.args.known c.args.lanes.now in
    let inside = subst (KeepsOrdered plan past) (sym c.self.view_is) keeps in
    let takes = c.takes_turn-takes_turn.ensures plan past c.args.known c.args.lanes.now keeps in
    let in_turn : IsInTurn plan past x =
    (c.is_in_turn.ensures plan past c.args.known c.args.lanes.now keeps takes).0 c.if-not-is_in_turn.false in
    take_on plan past x c.args.self.now keeps in_turn c.note.new.self.beats c.note.new.self.turns c.note.new.self.layout
    (c.note.ensures.layout ∙ c.take.ensures.layout ∙ inside.suits.layout) (Ok c.in-Ok.ended)
    (subst (λ (v : sides_view.View). sides.IsTakeAfter {E = AllocError} plan past x v (Ok c.in-Ok.ended)) (sym c.note.ensures.beats)
    (subst (λ (r : Result (Option Ended) AllocError). sides.IsTakeAfter plan past x c.take.new.self r) c.in-Ok.is
    (c.take.ensures.taken plan past inside.beats)))
    (if_some c.in-Ok.ended (c.note.ensures.turns plan past c.args.known c.args.lanes.now inside.turns takes in_turn))
  where
    if_some : {X P : Type 0} (o : Option X) → P → OnSome o P
    if_some (Some x) p = p
    if_some None p = tt
