use Rattle.std.proofs.Common.{Some}
use Rattle.tl_audit.proofs.Cells.{put_at}
use Rattle.tl_audit.proofs.order.keep.Goals as goal

pub returns : goal.returns
returns c = put_at c.args.lasts.now c.index-lasts-port.result c.args.port c.args.source (Some c.args.index) c.requires
