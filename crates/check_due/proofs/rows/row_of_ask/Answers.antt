-- The row of its beat.
use Rattle.std.proofs.Common.{arith}
use Rattle.check_rows.specs.Row.{seen_beat}
use Rattle.check_beats.specs.Bus.{bus_bytes}
use Rattle.check_due.proofs.Buses.{link-there}
use Rattle.check_due.proofs.RowLemmas.{ask-row}
use Rattle.check_due.proofs.rows.row_of_ask.Goals as goal

pub returns-clause-value : goal.returns-clause-value
returns-clause-value c =
    let buses = c.args.buses.now in
    let ask = c.args.ask.now in
    let there = link-there buses.masters.now buses.ports.now ask.link c.in_ok-bus.bus c.in_ok-bus.ensures.bus in
    ask-row buses.resets buses.masters.now buses.ports.now c.args.line ask.time ask.link ask.cells ask.mask.now ask.lanes.now
    (seen_beat (bus_bytes c.in_ok-bus.bus) c.ask_beat.new.lanes (c.in_ok-beat.beat, c.in_ok-beat.known))
    (record {
      few_masters = omega arith;
      few_ports = omega arith;
      in_time = omega arith;
      has_link = c.in_ok-bus.ensures.there;
    }) (rw there.bytes c.in_ok-beat.ensures)
