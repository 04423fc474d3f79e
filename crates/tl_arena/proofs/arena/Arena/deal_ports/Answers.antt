use Rattle.std.proofs.Common.{◌+◌, List, sym, subst}
use Rattle.tl_arena.specs.Views.{PortView, AreNewPorts}
use Rattle.tl_arena.proofs.Dealt.{ports_more}
use Rattle.tl_arena.proofs.arena.Arena.deal_ports.Goals as goal

pub loop-number-preserved : goal.loop-number-preserved
loop-number-preserved c = record {
  table = c.in_ok-seat.ensures.table;
  dealt = c.in_ok-seat.ensures.dealt;
  seats = subst (λ (us : List PortView). AreNewPorts c.args.self.now (c.loop-number.number + 1) us)
      (sym c.in_ok-push.ensures.items)
      (ports_more c.args.self.now c.loop-number.number c.loop-number.seats.items c.in_ok-seat.seat
      c.in_ok-seat.ensures.seat c.loop-number.invariant.seats);
}
