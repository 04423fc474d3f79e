use Rattle.std.proofs.Common.{◌≡◌, ◌+◌, ℕ, List, [], ◌∷◌, ◌++◌, length, ap, sym, ◌∙◌}
use Rattle.tl_ops.specs.Store.{Store}
use Rattle.tl_script.specs.System.{error_store}
use Rattle.tl_program.proofs.Whole.{banks_many, books_many, reached, resets_length, seats_many, threaded}
use Rattle.tl_program.proofs.threads.run_threads.Goals as goal

pub arena_of-requires : goal.arena_of-requires
arena_of-requires g c =
    c.deref.ensures.value ∙ c.in-Ok.ensures ∙ ap (λ (l : List Store). l ++ error_store ∷ []) c.devices.ensures.value

pub books_of-requires-clause-ports : goal.books_of-requires-clause-ports
books_of-requires-clause-ports g c =
    let s = c.args.system.now in
    let is = c.in-Ok.ensures ∙ ap (λ (l : List Store). l ++ error_store ∷ []) c.devices.ensures.value in
    banks_many s c.in-Ok.banks c.devices.ensures.lawful is
    ∙ sym (ap (λ (l : List ℕ). length l) c.deref-2.ensures.value ∙ c.in-Ok-journals_of.ensures.counted.many)

pub run_named-requires-clause-ports : goal.run_named-requires-clause-ports
run_named-requires-clause-ports g c κs within =
    reached c.args.system.now c.in-Ok-arena_of.field-0.arena c.devices.ensures.lawful c.in-Ok-arena_of.ensures.arena

pub run_named-requires-clause-all_books : goal.run_named-requires-clause-all_books
run_named-requires-clause-all_books g c κs within =
    let s = c.args.system.now in
    let many : length c.deref.result.now ≡ length s.ranges + 1 =
    ap (λ (l : List Store). length l) (c.deref.ensures.value ∙ c.in-Ok.ensures
    ∙ ap (λ (l : List Store). l ++ error_store ∷ []) c.devices.ensures.value)
    ∙ resets_length s c.devices.ensures.lawful in
    seats_many (length s.ranges + 1) c.in-Ok-books_of.books c.in-Ok-arena_of.field-0.ports c.in-Ok-books_of.ensures.many
    (c.in-Ok-arena_of.ensures.ports.many ∙ many)

pub returns : goal.returns
returns g c =
    let s = c.args.system.now in
    let arena = c.in-Ok-arena_of.ensures in
    let run = c.in_ok-run.run' in
    let ran = c.in_ok-run.ensures in
    let many : length c.deref.result.now ≡ length s.ranges + 1 =
    ap (λ (l : List Store). length l) (c.deref.ensures.value ∙ c.in-Ok.ensures
    ∙ ap (λ (l : List Store). l ++ error_store ∷ []) c.devices.ensures.value)
    ∙ resets_length s c.devices.ensures.lawful in
    let given = seats_many (length s.ranges + 1) c.in-Ok-books_of.books c.in-Ok-arena_of.field-0.ports
    c.in-Ok-books_of.ensures.many (arena.ports.many ∙ many) in
    let books = books_many (length s.ranges + 1) run.books c.in-Ok-books_of.books ran.all given in
    threaded s c.in-Ok-arena_of.field-0.arena run.traces.items run.books.items run.account.free.items run.account.held.items run.account.left.items arena.arena ran.traces.all ran.traces.each books ran.books ran.account ran.left
