use Rattle.std.proofs.Common.{arith}
use Rattle.tl_workers.specs.Start.{IsBookIn}
use Rattle.tl_workers.proofs.Rows.{row_head, row_rest}
use Rattle.tl_threads.proofs.named.ports_of.Goals as goal

pub new-requires : goal.new-requires
new-requires g c = row_head
    (IsBookIn g.N.ArenaName.arena) 0 c.in-Some.book _ _ c.in-Some.ensures.steps.0 c.loop-book.invariant.books

pub loop-book-preserved : goal.loop-book-preserved
loop-book-preserved g c =
    let step = c.in-Some.ensures.steps in
    let push = c.push_reserved.ensures in
    record {
      count = omega (arith, step.1, push.len, c.loop-book.invariant.count);
      room = rw push.capacity c.loop-book.invariant.room;
      books = row_rest (λ b. IsBookIn g.N.ArenaName.arena 0 b) c.in-Some.book _ _ step.0 c.loop-book.invariant.books;
    }
