use Rattle.std.proofs.Common.{◌≡◌, ◌∙◌, Bool, true, false, sym}
use Rattle.check_cells.proofs.Marking.{kept_but_more, kept_marked, not_kept_but}
use Rattle.check_cells.proofs.cells.Cells.is_each_below_but.Goals as goal
use Rattle.check_cells.proofs.cells.Cells.is_each_below_but.Goals.{else-not-get-via-then-not-get+else-not-is_kept, else-not-get-via-else-not-get}

differ : (b : Bool) → b ≡ false → b ≡ true → ⊥
differ b is isnt = cc

pub returns-then-not-is_kept : goal.returns-then-not-is_kept
returns-then-not-is_kept c = (
  λ yes. cc,
  λ below. absurd (not_kept_but c.args.marks.now c.args.self.now c.args.other.now c.loop-place.place
      c.get-then-not-get.result c.get-then-not-get-2.result c.get-then-not-get.ensures c.get-then-not-get-2.ensures
      (sym c.get.ensures ∙ c.if-not-get.true)
      (λ keeps. differ _ c.if-not-is_kept.true (c.is_kept.ensures.1 keeps)) below),
)

pub loop-place-preserved : goal.loop-place-preserved
loop-place-preserved c = elim c.else-not-get.branch [
  | else-not-get-via-then-not-get+else-not-is_kept w ↦
      kept_but_more c.args.marks.now c.args.self.now c.args.other.now c.loop-place.place w.get-then-not-get.result
      w.get-then-not-get-2.result w.get-then-not-get.ensures w.get-then-not-get-2.ensures
      (λ clean. w.is_kept.ensures.0 w.if-not-is_kept.false) c.loop-place.invariant
  | else-not-get-via-else-not-get w ↦
      kept_marked c.args.marks.now c.args.self.now c.args.other.now c.loop-place.place
      (sym c.get.ensures ∙ w.if-not-get.false) c.loop-place.invariant
]
