use Rattle.std.proofs.Common.{◌≡◌, []}
use Rattle.tl_rule.specs.declared.view.View.TheVariants.{Dealer}
use Rattle.tl_arena.specs.Views.{AreNewMasters}
use Rattle.tl_arena.proofs.arena.Arena.deal_masters.Given as goal

abbrev pub invariant-loop-number : goal.invariant-loop-number
invariant-loop-number l = record {
  table : l.dealer.table_id ≡ l.fn.self.table;
  dealt : l.dealer.me ≡ (Dealer l.fn.self.about l.number 0, []);
  seats : AreNewMasters l.fn.self l.number l.seats.items;
}
