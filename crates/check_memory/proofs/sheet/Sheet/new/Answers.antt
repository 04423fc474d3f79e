use Rattle.std.proofs.Common.{replicate, refl, ap}
use Rattle.check_memory.proofs.PageCells.{filled_page}
use Rattle.check_memory.proofs.sheet.Sheet.new.Goals as goal

pub returns : goal.returns
returns c =
    filled_page c.in_ok-lanes.lanes (replicate 256 c.mask_of-masks.result) c.args.known 2048 256 c.in_ok-lanes.ensures
    (ap (replicate 256) c.mask_of-masks.ensures) refl
