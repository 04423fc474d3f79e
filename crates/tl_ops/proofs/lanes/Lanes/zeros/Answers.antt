use Rattle.std.proofs.Common.{rules, ◌≡◌, replicate}
use Rattle.tl_ops.proofs.LaneLists.{lanes_of-replicate}
use Rattle.tl_ops.proofs.lanes.Lanes.zeros.Goals as goal

pub returns : goal.returns
returns c =
    let items : c.in_ok-vec.field-0.items ≡ replicate c.args.count 0 = search rules in
    rw items (lanes_of-replicate c.args.count)
