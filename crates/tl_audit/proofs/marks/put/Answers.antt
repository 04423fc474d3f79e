use Rattle.tl_audit.proofs.Cells.{put_at}
use Rattle.tl_audit.proofs.marks.put.Goals as goal

pub returns : goal.returns
returns c = put_at c.args.rows.now c.index-rows-port.result c.args.port c.args.index c.args.mark c.requires
