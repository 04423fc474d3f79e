use Rattle.std.proofs.Common.{◌≡◌, ℕ, true, length}
use Rattle.std.specs.VecDeque.{deque_capacity}
use Rattle.tl_rule.specs.Carried.{firsts, has, place}
use Rattle.tl_arena.proofs.carried.bring.Given as goal

abbrev pub invariant-loop-first : goal.invariant-loop-first
invariant-loop-first l = record {
  mirror : firsts l.seat.me.1 ≡ l.order.items;
  there : has l.order.items l.slot ≡ true;
  table : l.seat.table_id ≡ l.initial.seat.table_id;
  same : l.seat.id ≡ l.initial.seat.id;
  view : l.seat.me.0 ≡ l.initial.seat.me.0;
  members : (i : ℕ) → has l.order.items i ≡ has l.initial.order.items i;
  many : length l.order.items ≡ length l.initial.order.items;
  capacity : deque_capacity l.order ≡ deque_capacity l.initial.order;
}

abbrev pub decreases-loop-first : goal.decreases-loop-first
decreases-loop-first l = place l.order.items l.slot
