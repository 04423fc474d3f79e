use Rattle.std.proofs.Common.{◌∙◌, ◌++◌, ◌∷◌, [], None, length, take, ap, sym, arith}
use Rattle.std.proofs.lemmas.List.{length-take-le, take_all, take_more}
use Rattle.std.proofs.lemmas.Option.{get_or_from_slice_get}
use Rattle.check_flight.proofs.crossing.cells_of.Goals as goal

pub push-requires : goal.push-requires
push-requires c =
    let bytes = c.args.bytes.now in
    let place = c.loop-place.place in
    let so_far = ap length c.loop-place.invariant in
    let count = length-take-le place bytes (omega (arith, c.loop-place-test.true, c.len-place-end.ensures.value)) in
    omega (arith, so_far, count, c.loop-place-test.true, c.len-place-end.ensures.in_limit)

pub loop-place-preserved : goal.loop-place-preserved
loop-place-preserved c =
    let bytes = c.args.bytes.now in
    let place = c.loop-place.place in
    c.push.ensures ∙ ap (λ l. l ++ c.get.result ∷ []) c.loop-place.invariant
    ∙ ap (λ b. take place bytes ++ b ∷ []) (sym (get_or_from_slice_get bytes place c.get.result None c.get.ensures))
    ∙ sym (take_more bytes place None (omega (arith, c.loop-place-test.true, c.len-place-end.ensures.value)))

pub returns : goal.returns
returns c =
    c.loop-place.invariant
    ∙ take_all c.loop-place.place c.args.bytes.now (omega (arith, c.loop-place-test.false, c.len-place-end.ensures.value))
