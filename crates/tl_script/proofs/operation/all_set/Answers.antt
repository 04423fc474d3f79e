-- One more byte is looked at.
use Rattle.std.proofs.Common.{◌≡◌, ◌∙◌, ◌&&◌, ◌<◌, length, get_or, None, sym, ap, arith}
use Rattle.std.specs.Prelude.{is_some}
use Rattle.std.proofs.lemmas.List.Folds.{list_all_more}
use Rattle.std.proofs.lemmas.Option.{get_or_from_slice_get}
use Rattle.tl_script.proofs.operation.all_set.Goals as goal

pub loop-place-preserved : goal.loop-place-preserved
loop-place-preserved c =
    let bytes = c.args.bytes.now in
    let place = c.loop-place.place in
    let within : place < length bytes = omega (arith, c.loop-place-test.true, c.len-place-end.ensures.value) in
    let byte : get_or bytes place None ≡ c.get.result =
    get_or_from_slice_get bytes place c.get.result None c.get.ensures in
    let passes : c.is_some-all.result ≡ is_some (get_or bytes place None) =
    c.is_some-all.ensures ∙ ap is_some (sym byte) in
    ap (λ b. b && c.is_some-all.result) c.loop-place.invariant
    ∙ rw passes (sym (list_all_more is_some bytes place None within))
