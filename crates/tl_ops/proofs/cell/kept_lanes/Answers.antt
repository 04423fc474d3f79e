use Rattle.std.proofs.Common.{◌≡◌, ◌∙◌, ◌/◌, ◌%◌, slice_index, ap}
use Rattle.std.proofs.lemmas.Nat.{and_mask}
use Rattle.tl_ops.specs.declared.cell.TheConstants.{KEPT}
use Rattle.tl_ops.proofs.KeptLanes.{lanes}
use Rattle.tl_ops.proofs.cell.kept_lanes.Goals as goal

pub returns : goal.returns
returns c lane h =
    let mask = c.args.mask in
    let low : c.from-low.result ≡ slice_index KEPT (mask % 16) =
    c.from-low.ensures ∙ ap (slice_index KEPT) (c.from.ensures ∙ and_mask mask 4) in
    let high : c.from-high.result ≡ slice_index KEPT (mask / 16) =
    c.from-high.ensures ∙ ap (slice_index KEPT) c.from-2.ensures in
    lanes mask c.from-low.result c.from-high.result c.ranges.mask.fits low high lane h
