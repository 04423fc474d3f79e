use Rattle.std.proofs.Common.{◌≡◌, ◌+◌, ◌≤◌, vec_len, vec_capacity, length}
use Rattle.std.specs.Vec.Iter.{into_iter_items, into_iter_len}
use Rattle.tl_workers.specs.Start.{AreFrom, IsNewBook, IsNewPort, IsResetBank}
use Rattle.tl_workers.proofs.setup.books_of.Given as goal

-- the books so far are new, and the seats and banks that are left are those of the ports that are left
abbrev pub invariant-loop-seat : goal.invariant-loop-seat
invariant-loop-seat l = record {
  count : vec_len l.books + into_iter_len l.seat-iterator ≡ vec_len l.fn.seats;
  banks_left : into_iter_len l.banks ≡ into_iter_len l.seat-iterator;
  room : vec_len l.fn.seats ≤ vec_capacity l.books;
  seats : AreFrom (IsNewPort l.fn.arena) (length l.books.items) (into_iter_items l.seat-iterator);
  banks : AreFrom (IsResetBank l.fn.arena) (length l.books.items) (into_iter_items l.banks);
  books : AreFrom (IsNewBook l.fn.arena l.fn.system) 0 l.books.items;
}
