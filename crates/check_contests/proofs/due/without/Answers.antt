use Rattle.std.proofs.Common.{◌++◌, ◌∷◌, [], ◌≡◌, ◌∙◌, ℕ, ◌+◌, ◌<◌, Bool, if◌then◌else◌, length, take, get_or, None, sym, ap, arith}
use Rattle.std.proofs.lemmas.List.{length-take-le}
use Rattle.check_contests.specs.Writes.{writes}
use Rattle.check_memory.proofs.Unknown.{length-unknown_where, unknown-more, chosen_none, chosen_cell, got}
use Rattle.check_contests.proofs.due.without.Goals as goal
use Rattle.check_contests.proofs.due.without.Goals.{then-writes_after, else-writes_after}

pub push-requires : goal.push-requires
push-requires c =
    let below : c.loop-place.place < length c.args.cells.now = omega arith in
    omega (
      arith,
      ap length c.loop-place.invariant,
      length-unknown_where (λ place. writes c.args.other.now.op c.args.other.now (c.args.address + place))
          (take c.loop-place.place c.args.cells.now),
      length-take-le c.loop-place.place c.args.cells.now,
      c.len-place-end.ensures.in_limit,
      c.len-place-end.ensures.value,
    )

pub loop-place-preserved : goal.loop-place-preserved
loop-place-preserved c =
    let cells = c.args.cells.now in
    let k = c.loop-place.place in
    let test : ℕ → Bool = λ place. writes c.args.other.now.op c.args.other.now (c.args.address + place) in
    let below : k < length cells = omega arith in
    let new : c.if-writes_after.byte ≡ (if test k then None else get_or cells k None) =
    elim c.if-writes_after.branch [
      | then-writes_after w ↦ chosen_none (test k) (get_or cells k None) c.if-writes_after.byte
          (sym c.writes_after.ensures ∙ w.if-writes_after.true) w.byte-is
      | else-writes_after w ↦ chosen_cell (test k) (get_or cells k None) c.if-writes_after.byte
          (sym c.writes_after.ensures ∙ w.if-writes_after.false)
          (w.byte-is ∙ sym (got cells k w.get-byte.result w.get-byte.ensures))
    ] in
    c.push.ensures ∙ ap (λ left. left ++ c.if-writes_after.byte ∷ []) c.loop-place.invariant
    ∙ sym (unknown-more test cells k c.if-writes_after.byte below new)
