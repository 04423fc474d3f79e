-- Its columns, one after the other.
use Rattle.std.proofs.Common.{[], ◌∷◌}
use Rattle.std.specs.Fmt.{decimal}
use Rattle.check_beats.specs.Bus.{bus_bytes}
use Rattle.check_samples.specs.Row.{hex_text, link_text, mark_text}
use Rattle.check_due.proofs.Buses.{some-bytes}
use Rattle.check_due.proofs.ColumnLemmas.{reply-spelled}
use Rattle.check_due.proofs.Lanes.{lanes-shown}
use Rattle.check_due.proofs.rows.reply_beat.Goals as goal

pub returns : goal.returns
returns c =
    let reply = c.args.reply.now in
    let cells = reply.cells in
    reply-spelled (bus_bytes c.args.bus) (decimal reply.time) (link_text reply.link) (68 ∷ []) (decimal cells.opcode)
    (mark_text cells.param) (decimal cells.size) (decimal cells.source) (hex_text reply.lanes.now) (decimal cells.denied)
    (mark_text cells.corrupt) c.in_ok-opcode.opcode c.in_ok-param.param c.in_ok-size.size c.in_ok-source.source
    c.in_ok-denied.denied c.in_ok-corrupt.corrupt _ c.in_ok-opcode.ensures c.in_ok-param.ensures c.in_ok-size.ensures
    c.in_ok-source.ensures (lanes-shown (bus_bytes c.args.bus) reply.lanes.now _ (some-bytes c.args.bus) c.in_ok-known.ensures.size
    c.in_ok-known.ensures.value) c.in_ok-denied.ensures
    (rw c.asks_for_mark-asked.ensures at c.in_ok-corrupt.ensures)
