use Rattle.std.proofs.Common.{length, refl, arith}
use Rattle.check_flight.proofs.Given.{alike_all, alike_at, alike_counted, alike_more, alike_less}
use Rattle.check_flight.proofs.crossing.are_given_alike.Goals as goal

pub returns-then-len : goal.returns-then-len
returns-then-len c = (
  λ yes. absurd (cc),
  λ same.
      let counted = alike_counted c.args.sent.now c.args.seen.now same in
      absurd (c.if-len.true (omega (arith, counted, c.len.ensures.value, c.len-2.ensures.value))),
)

pub returns-then-not-is_given_alike : goal.returns-then-not-is_given_alike
returns-then-not-is_given_alike c = (
  λ yes. absurd (cc),
  λ same.
      let is = c.is_given_alike.ensures.1
      (alike_at c.args.sent.now c.args.seen.now c.loop-place.place c.get.result c.get-in-loop-place.result same c.get.ensures
      c.get-in-loop-place.ensures) in
      let isnt = c.if-not-is_given_alike.true in absurd (cc),
)

pub loop-place-preserved : goal.loop-place-preserved
loop-place-preserved c =
    alike_more c.args.sent.now c.args.seen.now c.loop-place.place c.get.result c.get-in-loop-place.result
    c.loop-place.invariant c.get.ensures c.get-in-loop-place.ensures
    (c.is_given_alike.ensures.0 c.if-not-is_given_alike.false)

pub returns : goal.returns
returns c = (
  λ yes. alike_all c.args.sent.now c.args.seen.now
      (omega (arith, c.if-len.false, c.len.ensures.value, c.len-2.ensures.value))
      (alike_less c.args.sent.now c.args.seen.now (length c.args.sent.now) c.loop-place.place
      (omega (arith, c.loop-place-test.false, c.len-place-end.ensures.value)) c.loop-place.invariant),
  λ same. refl,
)
