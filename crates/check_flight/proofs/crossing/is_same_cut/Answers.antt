use Rattle.std.proofs.Common.{◌↔◌, subst}
use Rattle.std.specs.Prelude.{IsTrue}
use Rattle.check_flight.specs.Crossing.{MessageBytes, IsSameCut}
use Rattle.check_flight.proofs.Cuts.{by_bytes, by_other, not_alike}
use Rattle.check_flight.proofs.crossing.is_same_cut.Goals as goal

pub returns-then-is_cut_spoiled : goal.returns-then-is_cut_spoiled
returns-then-is_cut_spoiled c =
    let one : MessageBytes = record { bytes = c.given.inside.cells.now; spoiled = c.given.inside.marks.now } in
    let two : MessageBytes = record { bytes = c.captured.inside.cells.now; spoiled = c.captured.inside.marks.now } in
    let r = c.is_cut_spoiled-then-is_cut_spoiled.result in
    subst (λ (g : MessageBytes). IsTrue r ↔ IsSameCut c.args.width g c.args.captured.now c.args.cut) c.given.view_is
    (subst (λ (k : MessageBytes). IsTrue r ↔ IsSameCut c.args.width one k c.args.cut) c.captured.view_is
    (by_other c.args.width c.args.cut one two c.is_cut_spoiled.result r r (c.is_cut_spoiled.ensures one.bytes)
    (c.is_cut_spoiled-then-is_cut_spoiled.ensures two.bytes) c.if-is_cut_spoiled.true))

pub returns-else-not-is_cut_spoiled : goal.returns-else-not-is_cut_spoiled
returns-else-not-is_cut_spoiled c =
    let one : MessageBytes = record { bytes = c.given.inside.cells.now; spoiled = c.given.inside.marks.now } in
    let two : MessageBytes = record { bytes = c.captured.inside.cells.now; spoiled = c.captured.inside.marks.now } in
    let apart : IsSameCut c.args.width c.args.given.now c.args.captured.now c.args.cut → ⊥ =
    subst (λ (g : MessageBytes). IsSameCut c.args.width g c.args.captured.now c.args.cut → ⊥) c.given.view_is
    (subst (λ (k : MessageBytes). IsSameCut c.args.width one k c.args.cut → ⊥) c.captured.view_is
    (not_alike c.args.width c.args.cut one two c.is_cut_spoiled.result c.is_cut_spoiled-2.result c.is_cut_spoiled.result
    (c.is_cut_spoiled.ensures one.bytes) (c.is_cut_spoiled-2.ensures two.bytes) c.if-is_cut_spoiled.false
    c.if-not-is_cut_spoiled.false)) in
    (λ yes. let isnt = c.if-not-is_cut_spoiled.false in absurd (cc), λ alike. absurd (apart alike))

pub returns-then-not-is_cut_spoiled : goal.returns-then-not-is_cut_spoiled
returns-then-not-is_cut_spoiled c =
    let one : MessageBytes = record { bytes = c.given.inside.cells.now; spoiled = c.given.inside.marks.now } in
    let two : MessageBytes = record { bytes = c.captured.inside.cells.now; spoiled = c.captured.inside.marks.now } in
    let r = c.are_same_in_cut.result in
    subst (λ (g : MessageBytes). IsTrue r ↔ IsSameCut c.args.width g c.args.captured.now c.args.cut) c.given.view_is
    (subst (λ (k : MessageBytes). IsTrue r ↔ IsSameCut c.args.width one k c.args.cut) c.captured.view_is
    (by_bytes c.args.width c.args.cut one two c.is_cut_spoiled.result c.is_cut_spoiled-2.result r
    (c.is_cut_spoiled.ensures one.bytes) (c.is_cut_spoiled-2.ensures two.bytes) c.if-is_cut_spoiled.false
    c.if-not-is_cut_spoiled.true c.are_same_in_cut.ensures))
