-- A row more, behind whose bits no others stand.
use Rattle.check_samples.specs.declared.due.KeptAsk.{KeptAsk}
use Rattle.check_samples.proofs.DueLemmas.{one-ask}
use Rattle.check_samples.proofs.due.DueRows.add_ask.Goals as goal

pub returns : goal.returns
returns c =
    let ask : KeptAsk = record {
      time = c.args.time;
      link = c.args.link;
      cells = c.args.cells;
      mask = c.in_ok-mask.mask;
      lanes = c.in_ok-lanes.lanes;
    } in
    rw (c.in_ok-push.ensures.items, c.in_ok-lanes.ensures.bits, c.in_ok-mask.ensures.bits, ← c.self.view_is)
    (one-ask c.self.inside.bits.items c.args.mask.now c.args.lanes.now c.self.inside.rows.items ask c.self.invariant
    c.in_ok-mask.ensures.place (rw c.in_ok-mask.ensures.bits at c.in_ok-lanes.ensures.place))
