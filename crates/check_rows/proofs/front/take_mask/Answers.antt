-- Digits and a comma are a mask.
use Rattle.std.proofs.Common.{◌∙◌, arith}
use Rattle.std.proofs.lemmas.Nat.{pow_pos}
use Rattle.check_beats.specs.Bus.{bus_bytes}
use Rattle.check_rows.proofs.FrontLemmas.{spells-mask}
use Rattle.check_rows.proofs.front.take_mask.Goals as goal

pub returns : goal.returns
returns c =
    let whole = c.if-count-mask_digits.false in
    let small = c.if-value-all_lanes.false in
    let most = c.all_lanes.ensures in
    let some = pow_pos (bus_bytes c.args.bus) in
    rw c.in-Some-behind_comma.ensures.rest
    (spells-mask (bus_bytes c.args.bus) c.args.text.now c.in-Some.value c.in-Some.count
    (whole ∙ c.mask_digits.ensures.value) (omega (arith, small, most, some)) c.in-Some-behind_comma.ensures.inside
    c.in-Some-behind_comma.ensures.comma c.in-Some.ensures.number)
