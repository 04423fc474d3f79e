use Rattle.std.proofs.Common.{◌≡◌, ◌∙◌, ℕ, ◌+◌, ◌^◌, ◌≤◌, List, Option, length, take, drop, ap, arith}
use Rattle.std.proofs.lemmas.List.{length-take-le, length-drop}
use Rattle.tl_types.specs.Operation.{reply_op_of}
use Rattle.tl_types.specs.Request.{Request}
use Rattle.tl_map.specs.declared.range.Range.{Range}
use Rattle.check_memory.specs.Cells.{unknown_where}
use Rattle.check_memory.specs.Partial.{holds}
use Rattle.check_memory.specs.Pattern.{shown_cells}
use Rattle.check_memory.specs.Paged.{Paged, paged_cells, content}
use Rattle.check_memory.proofs.SeenWindows.{left_after, window_then}
use Rattle.check_memory.proofs.Space.{length-tabulate}
use Rattle.check_memory.proofs.Unknown.{length-unknown_where}
use Rattle.check_memory.proofs.volatile.serve_in_page.Goals as goal

abbrev window : Paged → List Range → Request → List (Option ℕ)
window pages volatile ask =
    take (2 ^ ask.size) (drop ask.address (unknown_where (λ place. holds volatile place 1) (paged_cells pages)))

room : (pages : Paged) (ask : Request) → ask.address + 2 ^ ask.size ≤ 2 ^ 64
    → ask.address + 2 ^ ask.size ≤ length (paged_cells pages)
room pages ask in_space = omega (arith, in_space, length-tabulate (content pages.slots pages.known) (2 ^ 64))

wide : (pages : Paged) (volatile : List Range) (ask : Request) → ask.address + 2 ^ ask.size ≤ 2 ^ 64
    → length (window pages volatile ask) ≡ 2 ^ ask.size
wide pages volatile ask in_space =
    let seen = unknown_where (λ place. holds volatile place 1) (paged_cells pages) in
    length-take-le (2 ^ ask.size) (drop ask.address seen)
    (omega (
      arith,
      room pages ask in_space,
      length-drop ask.address seen,
      length-unknown_where (λ place. holds volatile place 1) (paged_cells pages),
    ))

pub returns-clause-after : goal.returns-clause-after
returns-clause-after c =
    let pages = c.args.pages.now in
    let ask = c.args.ask.now in
    c.serve.ensures.after
    ∙ left_after c.args.kind ask.op (paged_cells pages) (paged_cells c.look.new.pages) (window pages c.args.volatile.now ask)
    ask.bytes ask.address (2 ^ ask.size) (room pages ask c.requires.in_space)
    (wide pages c.args.volatile.now ask c.requires.in_space) c.requires.counted c.look.ensures.after

pub returns-clause-shown : goal.returns-clause-shown
returns-clause-shown c =
    let pages = c.args.pages.now in
    let ask = c.args.ask.now in
    c.serve.ensures.shown
    ∙ ap (shown_cells (reply_op_of ask.op))
    (window_then (paged_cells pages) (paged_cells c.look.new.pages) (window pages c.args.volatile.now ask) ask.address
    (2 ^ ask.size) (room pages ask c.requires.in_space) (wide pages c.args.volatile.now ask c.requires.in_space)
    c.look.ensures.after)
