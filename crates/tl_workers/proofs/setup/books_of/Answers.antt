use Rattle.std.proofs.Common.{◌≡◌, ◌<◌, ℕ, length, arith, refl, sym, subst}
use Rattle.std.proofs.lemmas.Grind.{common_steps}
use Rattle.std.proofs.lemmas.Option.{get_or_from_slice_get}
use Rattle.tl_rule.specs.Views.{no_store}
use Rattle.tl_workers.specs.Start.{IsNewPort, IsResetBank, IsNewBook}
use Rattle.tl_workers.proofs.Arrivals.{book_is_new}
use Rattle.tl_workers.proofs.Rows.{row_head, row_tail, row_more, length_more}
use Rattle.tl_workers.proofs.setup.books_of.Goals as goal

pub book_of-requires-clause-seat : goal.book_of-requires-clause-seat
book_of-requires-clause-seat c =
    let num : length c.loop-seat.books.items ≡ c.len-number.result = grind (arith, common_steps) in
    subst (λ (n : ℕ). IsNewPort c.args.arena.now n c.in-Some.seat) num
    (row_head (IsNewPort c.args.arena.now)
    (length c.loop-seat.books.items) c.in-Some.seat _ _ c.in-Some.ensures.steps.0 c.loop-seat.invariant.seats)

pub book_of-requires-clause-bank : goal.book_of-requires-clause-bank
book_of-requires-clause-bank c =
    let num : length c.loop-seat.books.items ≡ c.len-number.result = grind (arith, common_steps) in
    let is = subst (λ (n : ℕ). IsResetBank c.args.arena.now n c.in-Some-next.bank) num
    (row_head (IsResetBank c.args.arena.now)
    (length c.loop-seat.books.items) c.in-Some-next.bank _ _ c.in-Some-next.ensures.cases.0 c.loop-seat.invariant.banks) in
    sym (get_or_from_slice_get c.args.arena.now.about.resets c.len-number.result c.in-Some-next.bank no_store is)

pub loop-seat-preserved : goal.loop-seat-preserved
loop-seat-preserved c =
    let a = c.args.arena.now in
    let was = c.loop-seat.invariant in
    let step = c.in-Some.ensures.steps in
    let bank = c.in-Some-next.ensures.cases in
    let push = c.push_reserved.ensures in
    let done = c.loop-seat.books.items in
    let after = c.push_reserved.new.self.items in
    let more = length_more done after c.in-Ok-book_of.book push.items in
    let s = c.args.system.now in
    let num : c.len-number.result ≡ length done = grind (arith, common_steps) in
    let within : c.len-number.result < length c.args.journals.now = grind (arith, common_steps) in
    let new = book_is_new a s c.args.journals.now c.len-number.result _ c.in-Ok-book_of.book c.requires.journals within refl c.in-Ok-book_of.ensures in
    record {
      count = omega (arith, step.1, push.len, was.count);
      banks_left = omega (arith, step.1, bank.1, was.banks_left);
      room = rw push.capacity was.room;
      seats = row_tail (IsNewPort a) (length done) (length after) c.in-Some.seat _ _ step.0 more was.seats;
      banks = row_tail (IsResetBank a) (length done) (length after) c.in-Some-next.bank _ _ bank.0 more was.banks;
      books = row_more (IsNewBook a s) done after c.in-Ok-book_of.book push.items was.books
          (subst (λ (n : ℕ). IsNewBook a s n c.in-Ok-book_of.book) num new);
    }
