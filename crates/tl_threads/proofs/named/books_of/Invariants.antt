use Rattle.std.proofs.Common.{◌≡◌, ◌+◌, ◌≤◌, vec_len, vec_capacity}
use Rattle.std.specs.Vec.Iter.{into_iter_len}
use Rattle.tl_threads.specs.Left.{IsBookOf}
use Rattle.tl_workers.specs.Start.{AreFrom}
use Rattle.tl_threads.proofs.named.books_of.Given as goal

-- the books so far are those of their ports
abbrev pub invariant-loop-port : goal.invariant-loop-port
invariant-loop-port g l = record {
  count : vec_len l.books + into_iter_len l.port-iterator ≡ vec_len l.fn.ports;
  room : vec_len l.fn.ports ≤ vec_capacity l.books;
  books : AreFrom (IsBookOf g.N.ArenaName.arena) 0 l.books.items;
}
