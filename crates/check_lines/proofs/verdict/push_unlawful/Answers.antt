-- The pieces of the line, one after another, and what a call leaves that fails after some of them.
use Rattle.std.proofs.Common.{◌<◌, ◌+◌, ◌++◌, [], ◌∷◌, ap, arith, length, length-append, rules, vec_capacity}
use Rattle.std.proofs.lemmas.List.{append_assoc}
use Rattle.tl_script.proofs.Appended.{on_err}
use Rattle.tl_text.proofs.TextLemmas.{begins_with_itself}
use Rattle.check_lines.specs.Verdict.{fault_text, unlawful_line, unlawful_text}
use Rattle.check_lines.proofs.Growing.{begins_after, grown}
use Rattle.check_lines.proofs.verdict.push_unlawful.Goals as goal

pub returns-in_err-push_place-clause-ok : goal.returns-in_err-push_place-clause-ok
returns-in_err-push_place-clause-ok c = search rules

pub returns-in_err-push_place-clause-err : goal.returns-in_err-push_place-clause-err
returns-in_err-push_place-clause-err c = on_err c.from_residual.result c.in_err-push_place.ensures.err

pub returns-in_err-push_place-clause-room : goal.returns-in_err-push_place-clause-room
returns-in_err-push_place-clause-room c = omega (arith, c.in_err-push_place.ensures.room)

pub returns-in_err-push_place-clause-full : goal.returns-in_err-push_place-clause-full
unfolding unlawful_line
returns-in_err-push_place-clause-full c =
    let s5 = unlawful_text c.args.names.now c.args.row.now in
    let s6 = s5 ++ fault_text c.args.fault.now in
    let enough : vec_capacity c.args.text.now < length c.args.text.now.items + length (s6 ++ 10 ∷ []) =
    omega (arith, c.in_err-push_place.ensures.full, length-append s5 (fault_text c.args.fault.now), length-append s6 (10 ∷ [])) in
    on_err c.from_residual.result enough

pub returns-in_err-push_fault-clause-ok : goal.returns-in_err-push_fault-clause-ok
returns-in_err-push_fault-clause-ok c = search rules

pub returns-in_err-push_fault-clause-err : goal.returns-in_err-push_fault-clause-err
returns-in_err-push_fault-clause-err c =
    on_err c.from_residual-in_err-push_fault.result
    (begins_after c.args.text.now.items _ _ _ c.in_ok-push_place.ensures.ok c.in_err-push_fault.ensures.err)

pub returns-in_err-push_fault-clause-room : goal.returns-in_err-push_fault-clause-room
returns-in_err-push_fault-clause-room c = omega (arith, c.in_ok-push_place.ensures.room, c.in_err-push_fault.ensures.room)

pub returns-in_err-push_fault-clause-full : goal.returns-in_err-push_fault-clause-full
unfolding unlawful_line
returns-in_err-push_fault-clause-full c =
    let old = c.args.text.now.items in
    let s5 = unlawful_text c.args.names.now c.args.row.now in
    let s6 = s5 ++ fault_text c.args.fault.now in
    let enough : vec_capacity c.args.text.now < length old + length (s6 ++ 10 ∷ []) =
    omega (arith, c.in_err-push_fault.ensures.full, c.in_ok-push_place.ensures.room, ap length c.in_ok-push_place.ensures.ok, length-append old s5, length-append s5 (fault_text c.args.fault.now), length-append s6 (10 ∷ [])) in
    on_err c.from_residual-in_err-push_fault.result enough

pub returns-in_err-push-clause-ok : goal.returns-in_err-push-clause-ok
returns-in_err-push-clause-ok c = search rules

pub returns-in_err-push-clause-err : goal.returns-in_err-push-clause-err
returns-in_err-push-clause-err c =
    let e6 = grown c.args.text.now.items _ _ _ _ c.in_ok-push_place.ensures.ok c.in_ok-push_fault.ensures.ok in
    on_err c.from_residual-in_err-push.result
    (begins_after c.args.text.now.items _ _ _ e6 (begins_with_itself _ _ c.in_err-push.ensures.items))

pub returns-in_err-push-clause-room : goal.returns-in_err-push-clause-room
returns-in_err-push-clause-room c = omega (arith, c.in_ok-push_place.ensures.room, c.in_ok-push_fault.ensures.room, c.in_err-push.ensures.capacity)

pub returns-clause-ok : goal.returns-clause-ok
unfolding unlawful_line
returns-clause-ok c =
    rw (c.in_ok-push.ensures.items, c.in_ok-push_fault.ensures.ok, c.in_ok-push_place.ensures.ok)
    (simp append_assoc)

pub returns-clause-room : goal.returns-clause-room
returns-clause-room c = omega (arith, c.in_ok-push_place.ensures.room, c.in_ok-push_fault.ensures.room, c.in_ok-push.ensures.capacity)
