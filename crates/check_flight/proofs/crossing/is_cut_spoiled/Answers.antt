use Rattle.std.proofs.Common.{refl, arith}
use Rattle.check_flight.specs.Crossing.{MessageBytes}
use Rattle.check_flight.proofs.Cuts.{begins_before, ends_after, in_cut, none_spoiled}
use Rattle.check_flight.proofs.crossing.is_cut_spoiled.Goals as goal

pub returns-then-get : goal.returns-then-get
returns-then-get c = λ bytes. (
  λ yes. (
    c.loop-place.place,
    in_cut c.args.width c.args.cut c.loop-place.place c.requires.some (omega (arith, c.loop-place.auto.place)) (omega (arith, c.loop-place-test.true)),
    cc,
  ),
  λ spoiled. refl,
)

pub returns : goal.returns
returns c = λ bytes.
    let width = c.args.width in
    let cut = c.args.cut in
    let parts : MessageBytes = record { bytes = bytes; spoiled = c.args.marks.now } in (
      λ yes. absurd (cc),
      λ spoiled. absurd (none_spoiled width cut parts c.requires.some
          (λ place at. c.loop-place.invariant place (begins_before width cut place at)
          (omega (arith, ends_after width cut place c.requires.some at, c.loop-place-test.false)))
          spoiled),
    )
