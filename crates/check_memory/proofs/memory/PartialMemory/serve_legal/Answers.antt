use Rattle.std.proofs.Common.{◌≡◌, ◌∙◌, ◌+◌, ◌^◌, ◌≤◌, List, length, sym, subst, ap, rules}
use Rattle.tl_map.specs.declared.range.Range.{Range}
use Rattle.tl_types.specs.Operation.{byte_count, reply_op_of}
use Rattle.tl_ops.specs.Support.{allows}
use Rattle.check_memory.specs.Partial.{Partial, AreWithin}
use Rattle.check_memory.specs.Pattern.{Pattern, shown_cells}
use Rattle.check_memory.specs.Paged.{paged_cells}
use Rattle.check_memory.proofs.Legal.{allowed, small_size, aligned, fits_words, in_page, on_err, takes_some, unchanged}
use Rattle.check_memory.proofs.SeenWindows.{answered_legal, in_space, served_is, unmoved, window_is}
use Rattle.check_memory.proofs.memory.PartialMemory.serve_legal.Goals as goal

pub returns-then-is_empty-clause-after : goal.returns-then-is_empty-clause-after
returns-then-is_empty-clause-after c =
    let ask = c.args.ask.now in
    let empty : length c.bytes.result.now ≡ 0 = search rules in
    let none : byte_count ask.op ask.size ≡ 0 = sym c.bytes.ensures.lawful.counted
    ∙ sym (ap length c.bytes.ensures.value) ∙ empty in
    sym (unchanged c.args.self.now ask c.requires none)

pub returns-in_err-at-clause-takes : goal.returns-in_err-at-clause-takes
returns-in_err-at-clause-takes c =
    let ask = c.args.ask.now in
    let some : length c.bytes.result.now ≡ 0 → ⊥ = search rules in
    on_err c.from_residual.result (takes_some c.args.self.now ask c.requires
    (λ none. some (ap length c.bytes.ensures.value ∙ c.bytes.ensures.lawful.counted ∙ none)))

pub serve_in_page-requires-clause-fits : goal.serve_in_page-requires-clause-fits
serve_in_page-requires-clause-fits c =
    let ask = c.args.ask.now in
    let sizes : c.self.inside.sizes ≡ c.args.self.now.sizes = ap (λ (m : Partial). m.sizes) c.self.view_is in
    let small : ask.size ≤ 8 = small_size c.self.inside.sizes ask.op ask.size c.self.invariant.1
    (ap (λ s. allows s ask.op ask.size) sizes
    ∙ allowed c.args.self.now ask c.requires) in
    fits_words ask.address ask.size small (aligned c.args.self.now ask c.requires)

pub serve_in_page-requires-clause-inside : goal.serve_in_page-requires-clause-inside
serve_in_page-requires-clause-inside c =
    let ask = c.args.ask.now in
    let sizes : c.self.inside.sizes ≡ c.args.self.now.sizes = ap (λ (m : Partial). m.sizes) c.self.view_is in
    let small : ask.size ≤ 8 = small_size c.self.inside.sizes ask.op ask.size c.self.invariant.1
    (ap (λ s. allows s ask.op ask.size) sizes
    ∙ allowed c.args.self.now ask c.requires) in
    in_page ask.address ask.size small (aligned c.args.self.now ask c.requires)

pub serve_in_page-requires-clause-in_space : goal.serve_in_page-requires-clause-in_space
serve_in_page-requires-clause-in_space c =
    subst (λ n. n + 2 ^ c.args.ask.now.size ≤ 2 ^ 64)
    (sym (unmoved c.args.self.now c.args.ask.now (c.is_mirrored.ensures c.if-is_mirrored.false)))
    (in_space c.args.self.now c.args.ask.now
    (subst (λ (ranges : List Range). AreWithin ranges (2 ^ 64)) (ap (λ (m : Partial). m.ranges) c.self.view_is)
    c.self.invariant.0)
    c.requires)

pub returns-clause-after : goal.returns-clause-after
returns-clause-after c =
    let memory = c.args.self.now in
    let ask = c.args.ask.now in
    let some : length c.bytes.result.now ≡ 0 → ⊥ = search rules in
    let takes = takes_some memory ask c.requires
    (λ none. some (ap length c.bytes.ensures.value ∙ c.bytes.ensures.lawful.counted ∙ none)) in
    let left = paged_cells c.serve_in_page.new.pages in
    ap (λ (m : Partial). record m { cells = left }) c.self.view_is
    ∙ served_is memory ask c.self.inside.kind c.deref.result.now (paged_cells c.page_for.new.self) left takes
    (c.is_mirrored.ensures c.if-is_mirrored.false)
    (ap (λ (m : Partial). m.kind) c.self.view_is)
    (c.deref.ensures.value ∙ ap (λ (m : Partial). m.volatile) c.self.view_is)
    (c.in_ok-at.ensures.same ∙ ap (λ (m : Partial). m.cells) c.self.view_is)
    c.serve_in_page.ensures.after

pub returns-clause-pattern : goal.returns-clause-pattern
returns-clause-pattern c =
    let memory = c.args.self.now in
    let ask = c.args.ask.now in
    ap (λ (p : Pattern). record p { bytes = c.serve_in_page.new.cells }) (c.answer.view_is ∙ c.head.ensures)
    ∙ answered_legal memory ask c.serve_in_page.new.cells c.requires
    (c.serve_in_page.ensures.shown
    ∙ ap (shown_cells (reply_op_of ask.op))
    (window_is memory ask c.deref.result.now (paged_cells c.page_for.new.self)
    (c.is_mirrored.ensures c.if-is_mirrored.false)
    (c.deref.ensures.value ∙ ap (λ (m : Partial). m.volatile) c.self.view_is)
    (c.in_ok-at.ensures.same ∙ ap (λ (m : Partial). m.cells) c.self.view_is)))

pub serve_placed-requires-clause-takes : goal.serve_placed-requires-clause-takes
serve_placed-requires-clause-takes c =
    let some : length c.bytes.result.now ≡ 0 → ⊥ = search rules in
    takes_some c.args.self.now c.args.ask.now c.requires
    (λ none. some (ap length c.bytes.ensures.value ∙ c.bytes.ensures.lawful.counted ∙ none))
