use Rattle.std.proofs.Common.{◌≡◌, length, arith}
use Rattle.std.proofs.lemmas.Grind.{common_steps}
use Rattle.tl_threads.specs.Left.{IsBookOf}
use Rattle.tl_workers.proofs.Rows.{row_more}
use Rattle.tl_threads.proofs.named.books_of.Goals as goal

pub loop-port-preserved : goal.loop-port-preserved
loop-port-preserved g c =
    let a = g.N.ArenaName.arena in
    let step = c.in-Some.ensures.steps in
    let push = c.push_reserved.ensures in
    let book = c.into_book-book.result in
    let num : book.seat.number ≡ length c.loop-port.books.items = grind (arith, common_steps) in
    record {
      count = omega (arith, step.1, push.len, c.loop-port.invariant.count);
      room = rw push.capacity c.loop-port.invariant.room;
      books = row_more (IsBookOf a) c.loop-port.books.items c.push_reserved.new.self.items book push.items c.loop-port.invariant.books
          (record {
            arena_is = c.into_book-book.ensures.named;
            number_is = num;
            lawful = c.into_book-book.ensures.lawful;
          });
    }
