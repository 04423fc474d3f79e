use Rattle.std.proofs.Common.{◌≡◌, ◌∙◌, ℕ, ◌+◌, ◌/◌, ◌^◌, ◌≤◌, true, List, length, take, drop, Option, sym, subst, ap, arith}
use Rattle.tl_types.specs.Operation.{reply_op_of}
use Rattle.tl_types.specs.Request.{Request}
use Rattle.tl_types.specs.declared.operation.AskOp.{AskOp}
use Rattle.tl_ops.specs.declared.kind.Kind.{Kind}
use Rattle.tl_ops.specs.declared.sizes.SizeTable.{SizeTable}
use Rattle.tl_map.specs.declared.range.Range.{Range}
use Rattle.check_memory.specs.Cells.{new_cells}
use Rattle.check_memory.specs.Partial.{Partial, start_of, takes_bytes, visible, window_of, after_partial, AreWithin}
use Rattle.check_memory.specs.Pattern.{Pattern, shown_cells}
use Rattle.check_memory.specs.Paged.{paged_cells, content}
use Rattle.check_memory.proofs.ByteByByte.{still_there, window_wide}
use Rattle.check_memory.proofs.Legal.{takes_legal, takes_count}
use Rattle.check_memory.proofs.PagePlaces.{length-new_cells}
use Rattle.check_memory.proofs.SeenWindows.{all_looked, answered_legal, forgot_is, in_space, left_is}
use Rattle.check_memory.proofs.Space.{length-tabulate}
use Rattle.check_memory.proofs.memory.PartialMemory.serve_placed.Goals as goal

-- a window ends in the address space
space : (memory : Partial) (ask : Request) (ranges : List Range) → takes_bytes memory ask ≡ true → ranges ≡ memory.ranges
    → AreWithin ranges (2 ^ 64) → start_of memory ask + 2 ^ ask.size ≤ 2 ^ 64
space memory ask ranges takes same within =
    in_space memory ask (subst (λ (items : List Range). AreWithin items (2 ^ 64)) same within)
    (takes_legal memory ask takes)

pub hold-requires : goal.hold-requires
hold-requires c =
    omega (
      arith,
      space c.args.self.now c.args.ask.now c.self.inside.ranges.items c.requires.takes
          (ap (λ (m : Partial). m.ranges) c.self.view_is) c.self.invariant.0,
      c.start-start.ensures.value,
      c.width.ensures.value,
    )

pub look-requires-clause-in_space : goal.look-requires-clause-in_space
look-requires-clause-in_space c =
    omega (
      arith,
      space c.args.self.now c.args.ask.now c.self.inside.ranges.items c.requires.takes
          (ap (λ (m : Partial). m.ranges) c.self.view_is) c.self.invariant.0,
      c.start-start.ensures.value,
      c.width-2.ensures.value,
    )

pub serve_apart-requires-clause-counted : goal.serve_apart-requires-clause-counted
serve_apart-requires-clause-counted c =
    c.bytes-lawful.ensures.lawful.counted ∙ takes_count c.args.self.now c.args.ask.now c.requires.takes

-- a memory with cells that are left open
abbrev alike : Kind → SizeTable → List Range → List ℕ → List Range → List (Option ℕ) → Partial
alike kind sizes ranges mirrors volatile cells = record {
  kind = kind;
  sizes = sizes;
  ranges = ranges;
  mirrors = mirrors;
  volatile = volatile;
  cells = cells;
}

-- bytes that were looked at in pages that show what a memory has
seen : (memory : Partial) (ask : Request) (with : List (Option ℕ) → Partial) (cells cells' left : List (Option ℕ))
    (start width : ℕ) → start ≡ start_of memory ask → width ≡ 2 ^ ask.size → cells' ≡ cells → with cells ≡ memory
    → left ≡ take width (drop start (visible (with cells'))) → left ≡ window_of memory ask
seen memory ask with cells cells' left start width at wide same is shown =
    all_looked memory ask left start width at wide
    (shown ∙ ap (λ cs. take width (drop start (visible (with cs)))) same
    ∙ ap (λ (m : Partial). take width (drop start (visible m))) is)

-- what a request leaves of its window is as long
left_wide : (kind : Kind) (op : AskOp) (old given new : List (Option ℕ)) (width : ℕ) → length old ≡ width
    → length given ≡ width → new ≡ new_cells kind op old given → length new ≡ width
left_wide kind op old given new width wide counted is =
    ap length is ∙ length-new_cells kind op old given (counted ∙ sym wide) ∙ wide

pub serve_apart-requires-clause-window : goal.serve_apart-requires-clause-window
serve_apart-requires-clause-window c =
    let memory = c.args.self.now in
    let ask = c.args.ask.now in
    let inside : start_of memory ask + 2 ^ ask.size ≤ 2 ^ 64 =
    space memory ask c.self.inside.ranges.items c.requires.takes (ap (λ (m : Partial). m.ranges) c.self.view_is)
    c.self.invariant.0 in
    let counted : length memory.cells ≡ 2 ^ 64 =
    sym (ap (λ (m : Partial). length m.cells) c.self.view_is)
    ∙ length-tabulate (content c.self.inside.pages.slots c.self.inside.pages.known) (2 ^ 64) in
    let window : c.look.new.cells ≡ window_of memory ask =
    seen memory ask (alike c.self.inside.kind c.self.inside.sizes c.self.inside.ranges.items c.self.inside.mirrors.items
    c.self.inside.volatile.items) (paged_cells c.self.inside.pages) (paged_cells c.hold_flagged.new.pages) c.look.new.cells
    c.start-start.result c.width-2.result c.start-start.ensures.value c.width-2.ensures.value
    (c.in_ok-hold_flagged.ensures.same ∙ c.in_ok-hold.ensures.same) c.self.view_is c.look.ensures in
    let wide : length c.look.new.cells ≡ 2 ^ ask.size =
    ap length window ∙ window_wide memory ask (omega (arith, counted, inside)) in
    wide

pub write_bytes-requires-clause-in_space : goal.write_bytes-requires-clause-in_space
write_bytes-requires-clause-in_space c =
    let memory = c.args.self.now in
    let ask = c.args.ask.now in
    let inside : start_of memory ask + 2 ^ ask.size ≤ 2 ^ 64 =
    space memory ask c.self.inside.ranges.items c.requires.takes (ap (λ (m : Partial). m.ranges) c.self.view_is)
    c.self.invariant.0 in
    let counted : length memory.cells ≡ 2 ^ 64 =
    sym (ap (λ (m : Partial). length m.cells) c.self.view_is)
    ∙ length-tabulate (content c.self.inside.pages.slots c.self.inside.pages.known) (2 ^ 64) in
    let window : c.look.new.cells ≡ window_of memory ask =
    seen memory ask (alike c.self.inside.kind c.self.inside.sizes c.self.inside.ranges.items c.self.inside.mirrors.items
    c.self.inside.volatile.items) (paged_cells c.self.inside.pages) (paged_cells c.hold_flagged.new.pages) c.look.new.cells
    c.start-start.result c.width-2.result c.start-start.ensures.value c.width-2.ensures.value
    (c.in_ok-hold_flagged.ensures.same ∙ c.in_ok-hold.ensures.same) c.self.view_is c.look.ensures in
    let wide : length c.look.new.cells ≡ 2 ^ ask.size =
    ap length window ∙ window_wide memory ask (omega (arith, counted, inside)) in
    let long : length c.in_ok-new.new ≡ 2 ^ ask.size =
    left_wide c.self.inside.kind ask.op c.look.new.cells ask.bytes c.in_ok-new.new (2 ^ ask.size) wide
    (c.bytes-lawful.ensures.lawful.counted ∙ takes_count memory ask c.requires.takes) c.in_ok-new.ensures.left in
    omega (arith, inside, long, c.start-start.ensures.value)

pub write_bytes-requires-clause-held : goal.write_bytes-requires-clause-held
write_bytes-requires-clause-held c =
    let memory = c.args.self.now in
    let ask = c.args.ask.now in
    let inside : start_of memory ask + 2 ^ ask.size ≤ 2 ^ 64 =
    space memory ask c.self.inside.ranges.items c.requires.takes (ap (λ (m : Partial). m.ranges) c.self.view_is)
    c.self.invariant.0 in
    let counted : length memory.cells ≡ 2 ^ 64 =
    sym (ap (λ (m : Partial). length m.cells) c.self.view_is)
    ∙ length-tabulate (content c.self.inside.pages.slots c.self.inside.pages.known) (2 ^ 64) in
    let window : c.look.new.cells ≡ window_of memory ask =
    seen memory ask (alike c.self.inside.kind c.self.inside.sizes c.self.inside.ranges.items c.self.inside.mirrors.items
    c.self.inside.volatile.items) (paged_cells c.self.inside.pages) (paged_cells c.hold_flagged.new.pages) c.look.new.cells
    c.start-start.result c.width-2.result c.start-start.ensures.value c.width-2.ensures.value
    (c.in_ok-hold_flagged.ensures.same ∙ c.in_ok-hold.ensures.same) c.self.view_is c.look.ensures in
    let wide : length c.look.new.cells ≡ 2 ^ ask.size =
    ap length window ∙ window_wide memory ask (omega (arith, counted, inside)) in
    let long : length c.in_ok-new.new ≡ 2 ^ ask.size =
    left_wide c.self.inside.kind ask.op c.look.new.cells ask.bytes c.in_ok-new.new (2 ^ ask.size) wide
    (c.bytes-lawful.ensures.lawful.counted ∙ takes_count memory ask c.requires.takes) c.in_ok-new.ensures.left in
    λ k below.
    still_there c.hold.new.pages.slots c.hold_flagged.new.pages.slots ((c.start-start.result + k) / 256)
    c.in_ok-hold_flagged.ensures.kept
    (c.in_ok-hold.ensures.held k (omega (arith, below, long, c.width.ensures.value)))

pub forget_bytes-requires-clause-held : goal.forget_bytes-requires-clause-held
forget_bytes-requires-clause-held c =
    λ k below flagged.
    still_there c.hold_flagged.new.pages.slots c.write_bytes.new.pages.slots ((c.args.first + k) / 256)
    c.write_bytes.ensures.kept (c.in_ok-hold_flagged.ensures.held k below flagged)

pub returns-clause-after : goal.returns-clause-after
returns-clause-after c =
    let memory = c.args.self.now in
    let ask = c.args.ask.now in
    let window : c.look.new.cells ≡ window_of memory ask =
    seen memory ask (alike c.self.inside.kind c.self.inside.sizes c.self.inside.ranges.items c.self.inside.mirrors.items
    c.self.inside.volatile.items) (paged_cells c.self.inside.pages) (paged_cells c.hold_flagged.new.pages) c.look.new.cells
    c.start-start.result c.width-2.result c.start-start.ensures.value c.width-2.ensures.value
    (c.in_ok-hold_flagged.ensures.same ∙ c.in_ok-hold.ensures.same) c.self.view_is c.look.ensures in
    let pages = paged_cells c.hold_flagged.new.pages in
    let now = paged_cells c.write_bytes.new.pages in
    let left = paged_cells c.forget_bytes.new.pages in
    let served : record memory { cells = now } ≡ after_partial memory ask =
    left_is memory ask c.start-start.result pages c.look.new.cells c.in_ok-new.new now c.self.inside.kind c.requires.takes
    c.start-start.ensures.value (ap (λ (m : Partial). m.kind) c.self.view_is)
    (c.in_ok-hold_flagged.ensures.same ∙ c.in_ok-hold.ensures.same ∙ ap (λ (m : Partial). m.cells) c.self.view_is) window
    c.in_ok-new.ensures.left c.write_bytes.ensures.after in
    ap (λ (m : Partial). record m { cells = left }) c.self.view_is
    ∙ forgot_is memory ask c.args.flags.now c.args.first now left c.requires.takes served c.forget_bytes.ensures

pub returns-clause-pattern : goal.returns-clause-pattern
returns-clause-pattern c =
    let memory = c.args.self.now in
    let ask = c.args.ask.now in
    let window : c.look.new.cells ≡ window_of memory ask =
    seen memory ask (alike c.self.inside.kind c.self.inside.sizes c.self.inside.ranges.items c.self.inside.mirrors.items
    c.self.inside.volatile.items) (paged_cells c.self.inside.pages) (paged_cells c.hold_flagged.new.pages) c.look.new.cells
    c.start-start.result c.width-2.result c.start-start.ensures.value c.width-2.ensures.value
    (c.in_ok-hold_flagged.ensures.same ∙ c.in_ok-hold.ensures.same) c.self.view_is c.look.ensures in
    ap (λ (p : Pattern). record p { bytes = c.serve_apart.new.cells }) (c.answer.view_is ∙ c.head.ensures)
    ∙ answered_legal memory ask c.serve_apart.new.cells (takes_legal memory ask c.requires.takes)
    (c.in_ok-new.ensures.shown ∙ ap (shown_cells (reply_op_of ask.op)) window)
