use Rattle.std.proofs.Common.{ap, rules, sym}
use Rattle.tl_arena.specs.Views.{TicketView}
use Rattle.tl_master.proofs.master.post_routed.Goals as goal

pub returns-clause-posted : goal.returns-clause-posted
returns-clause-posted c =
    let ticket = c.post-ticket.ensures.ticket in record {
      from = ap (λ (t : TicketView). t.slot) ticket;
      -- these by a search, so that a wrong body leaves a goal open
      ask = search rules;
      routed = search rules;
      since = ap (λ (t : TicketView). t.known) ticket;
      slot = c.slot-slot.ensures;
      port = sym (ap (λ (t : TicketView). t.port) ticket);
    }
