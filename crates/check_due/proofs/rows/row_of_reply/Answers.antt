-- The row of its beat.
use Rattle.std.proofs.Common.{arith}
use Rattle.check_rows.specs.Row.{seen_beat}
use Rattle.check_beats.specs.Bus.{bus_bytes}
use Rattle.check_due.proofs.Buses.{link-there}
use Rattle.check_due.proofs.RowLemmas.{reply-row}
use Rattle.check_due.proofs.rows.row_of_reply.Goals as goal

pub returns-clause-value : goal.returns-clause-value
returns-clause-value c =
    let buses = c.args.buses.now in
    let reply = c.args.reply.now in
    let there = link-there buses.masters.now buses.ports.now reply.link c.in_ok-bus.bus c.in_ok-bus.ensures.bus in
    reply-row buses.resets buses.masters.now buses.ports.now c.args.line reply.time reply.link reply.cells reply.lanes.now
    (seen_beat (bus_bytes c.in_ok-bus.bus) c.reply_beat.new.lanes (c.in_ok-beat.beat, c.in_ok-beat.known))
    (record {
      few_masters = omega arith;
      few_ports = omega arith;
      in_time = omega arith;
      has_link = c.in_ok-bus.ensures.there;
    }) (rw there.bytes c.in_ok-beat.ensures)
