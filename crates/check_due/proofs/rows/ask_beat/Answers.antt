-- Its columns, one after the other.
use Rattle.std.proofs.Common.{[], ◌∷◌, arith, false}
use Rattle.std.specs.Fmt.{decimal, digits}
use Rattle.check_beats.specs.Bus.{bus_bytes}
use Rattle.check_samples.specs.Row.{hex_text, link_text, mark_text}
use Rattle.check_due.proofs.Buses.{some-bytes}
use Rattle.check_due.proofs.ColumnLemmas.{ask-spelled}
use Rattle.check_due.proofs.Lanes.{lanes-shown, mask-known}
use Rattle.check_due.proofs.Numbers.{address-read}
use Rattle.check_due.proofs.rows.ask_beat.Goals as goal

pub returns : goal.returns
returns c =
    let ask = c.args.ask.now in
    let cells = ask.cells in
    ask-spelled (bus_bytes c.args.bus) (decimal ask.time) (link_text ask.link) (65 ∷ []) (decimal cells.opcode)
    (decimal cells.param) (decimal cells.size) (decimal cells.source) (digits 16 false cells.address)
    (hex_text ask.mask.now) (hex_text ask.lanes.now) (mark_text cells.corrupt) c.in_ok-opcode.opcode c.in_ok-param.param
    c.in_ok-size.size c.in_ok-source.source cells.address c.in_ok-mask.mask c.in_ok-corrupt.corrupt _
    c.in_ok-opcode.ensures c.in_ok-param.ensures c.in_ok-size.ensures c.in_ok-source.ensures
    (address-read cells.address (omega arith))
    (mask-known c.args.bus ask.mask.now c.in_ok-mask.mask c.in_ok-mask.ensures.size c.in_ok-mask.ensures.value)
    (lanes-shown (bus_bytes c.args.bus) ask.lanes.now _ (some-bytes c.args.bus) c.in_ok-known.ensures.size
    c.in_ok-known.ensures.value) c.in_ok-corrupt.ensures
