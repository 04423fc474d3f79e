use Rattle.std.proofs.Common.{◌≡◌, ◌+◌, ◌≤◌, vec_len, vec_capacity}
use Rattle.std.specs.Vec.Iter.{into_iter_items, into_iter_len}
use Rattle.tl_workers.specs.Start.{AreFrom, IsBookIn}
use Rattle.tl_threads.proofs.named.ports_of.Given as goal

-- the books that are left are of the arena
abbrev pub invariant-loop-book : goal.invariant-loop-book
invariant-loop-book g l = record {
  count : vec_len l.ports + into_iter_len l.book-iterator ≡ vec_len l.fn.books;
  room : vec_len l.fn.books ≤ vec_capacity l.ports;
  books : AreFrom (IsBookIn g.N.ArenaName.arena) 0 (into_iter_items l.book-iterator);
}
