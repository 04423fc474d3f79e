use Rattle.std.proofs.Common.{◌≡◌, []}
use Rattle.tl_rule.specs.declared.view.View.TheVariants.{Dealer}
use Rattle.tl_arena.specs.Views.{AreNewPorts}
use Rattle.tl_arena.proofs.arena.Arena.deal_ports.Given as goal

abbrev pub invariant-loop-number : goal.invariant-loop-number
invariant-loop-number l = record {
  table : l.dealer.table_id ≡ l.fn.self.table;
  dealt : l.dealer.me ≡ (Dealer l.fn.self.about l.fn.self.about.masters l.number, []);
  seats : AreNewPorts l.fn.self l.number l.seats.items;
}
