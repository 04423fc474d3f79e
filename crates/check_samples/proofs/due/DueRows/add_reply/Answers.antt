-- A row more, behind whose bits no others stand.
use Rattle.check_samples.specs.declared.due.KeptReply.{KeptReply}
use Rattle.check_samples.proofs.DueLemmas.{one-reply}
use Rattle.check_samples.proofs.due.DueRows.add_reply.Goals as goal

pub returns : goal.returns
returns c =
    let reply : KeptReply = record {
      time = c.args.time;
      link = c.args.link;
      cells = c.args.cells;
      lanes = c.in_ok-lanes.lanes;
    } in
    rw (c.in_ok-push.ensures.items, c.in_ok-lanes.ensures.bits, ← c.self.view_is)
    (one-reply c.self.inside.bits.items c.args.lanes.now c.self.inside.rows.items reply c.self.invariant
    c.in_ok-lanes.ensures.place)
