use Rattle.std.proofs.Common.{◌++◌, ◌∷◌, [], ◌≡◌, ◌∙◌, ℕ, ◌+◌, ◌<◌, Bool, if◌then◌else◌, length, take, get_or, None, sym, ap, arith}
use Rattle.std.proofs.lemmas.List.{length-take-le}
use Rattle.check_memory.specs.Partial.{holds}
use Rattle.check_memory.proofs.Unknown.{length-unknown_where, unknown-more, chosen_none, chosen_cell, got}
use Rattle.check_memory.proofs.volatile.without.Goals as goal
use Rattle.check_memory.proofs.volatile.without.Goals.{then-holds, else-holds}

pub push-requires : goal.push-requires
push-requires c =
    let below : c.loop-place.place < length c.args.cells.now = omega arith in
    omega (
      arith,
      ap length c.loop-place.invariant,
      length-unknown_where (λ place. holds c.args.volatile.now (c.args.address + place) 1)
          (take c.loop-place.place c.args.cells.now),
      length-take-le c.loop-place.place c.args.cells.now,
      c.len-place-end.ensures.in_limit,
      c.len-place-end.ensures.value,
    )

pub loop-place-preserved : goal.loop-place-preserved
loop-place-preserved c =
    let cells = c.args.cells.now in
    let k = c.loop-place.place in
    let test : ℕ → Bool = λ place. holds c.args.volatile.now (c.args.address + place) 1 in
    let below : k < length cells = omega arith in
    let new : c.if-holds.byte ≡ (if test k then None else get_or cells k None) =
    elim c.if-holds.branch [
      | then-holds w ↦ chosen_none (test k) (get_or cells k None) c.if-holds.byte
          (sym c.holds.ensures ∙ w.if-holds.true) w.byte-is
      | else-holds w ↦ chosen_cell (test k) (get_or cells k None) c.if-holds.byte
          (sym c.holds.ensures ∙ w.if-holds.false)
          (w.byte-is ∙ sym (got cells k w.get-byte.result w.get-byte.ensures))
    ] in
    c.push.ensures ∙ ap (λ left. left ++ c.if-holds.byte ∷ []) c.loop-place.invariant
    ∙ sym (unknown-more test cells k c.if-holds.byte below new)
