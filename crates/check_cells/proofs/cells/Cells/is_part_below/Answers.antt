use Rattle.std.proofs.Common.{◌≡◌, ◌+◌, Bool, true, false, refl}
use Rattle.check_cells.proofs.KeptParts.{same_part, not_kept, kept_more}
use Rattle.check_cells.proofs.cells.Cells.is_part_below.Goals as goal

pub returns-in-Some-Some : goal.returns-in-Some-Some
returns-in-Some-Some c =
    same_part c.args.self.now c.args.other.now c.args.start c.args.width c.in-Some-Some.less c.in-Some-Some.more
    c.in-Some-Some.ensures.value c.in-Some-Some.ensures'.value c.in-Some-Some.ensures.fits
    c.in-Some-Some.ensures'.fits

differ : (b : Bool) → b ≡ false → b ≡ true → ⊥
differ b is isnt = cc

pub returns-then-not-is_kept : goal.returns-then-not-is_kept
returns-then-not-is_kept c = (
  λ yes. cc,
  λ kept. absurd (not_kept c.args.self.now c.args.other.now c.args.start
      (c.args.start + c.args.width) c.loop-place.place
      c.get.result c.get-in-loop-place.result c.loop-place.auto.place c.loop-place-test.true c.get.ensures
      c.get-in-loop-place.ensures (λ keeps. differ _ c.if-not-is_kept.true (c.is_kept.ensures.1 keeps)) kept),
)

pub loop-place-preserved : goal.loop-place-preserved
loop-place-preserved c =
    kept_more c.args.self.now c.args.other.now c.args.start c.loop-place.place (c.loop-place.place + 1) c.get.result
    c.get-in-loop-place.result refl c.get.ensures c.get-in-loop-place.ensures
    (c.is_kept.ensures.0 c.if-not-is_kept.false) c.loop-place.invariant
