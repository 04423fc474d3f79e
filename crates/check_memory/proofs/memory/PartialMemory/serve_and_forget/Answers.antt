use Rattle.std.proofs.Common.{◌≡◌, ◌∙◌, ◌+◌, ◌^◌, ◌≤◌, List, true, sym, subst, ap, rules}
use Rattle.tl_types.specs.Operation.{reply_op_of}
use Rattle.tl_map.specs.declared.range.Range.{Range}
use Rattle.tl_ops.specs.Support.{allows}
use Rattle.check_memory.specs.Partial.{Partial, takes_bytes, after_partial, AreWithin}
use Rattle.check_memory.specs.Pattern.{Pattern, shown_cells}
use Rattle.check_memory.specs.Paged.{paged_cells}
use Rattle.check_memory.proofs.Legal.{allowed, small_size, aligned, fits_words, in_page, on_err, takes_legal, takes_count, forgets_nothing}
use Rattle.check_memory.proofs.SeenWindows.{answered_legal, forgot_is, in_space, served_is, unmoved, window_is}
use Rattle.check_memory.proofs.memory.PartialMemory.serve_and_forget.Goals as goal

pub returns-then-not-takes_bytes-clause-after : goal.returns-then-not-takes_bytes-clause-after
returns-then-not-takes_bytes-clause-after c =
    forgets_nothing c.args.self.now c.args.ask.now c.args.first c.args.flags.now
    (sym c.takes_bytes.ensures.value ∙ search rules)

pub returns-in_err-at-clause-takes : goal.returns-in_err-at-clause-takes
returns-in_err-at-clause-takes c =
    let takes : takes_bytes c.args.self.now c.args.ask.now ≡ true = sym c.takes_bytes.ensures.value ∙ search rules in
    on_err c.from_residual.result takes

pub serve_in_page-requires-clause-counted : goal.serve_in_page-requires-clause-counted
serve_in_page-requires-clause-counted c =
    let takes : takes_bytes c.args.self.now c.args.ask.now ≡ true = sym c.takes_bytes.ensures.value ∙ search rules in
    c.takes_bytes.ensures.lawful.counted ∙ takes_count c.args.self.now c.args.ask.now takes

pub serve_in_page-requires-clause-fits : goal.serve_in_page-requires-clause-fits
serve_in_page-requires-clause-fits c =
    let ask = c.args.ask.now in
    let takes : takes_bytes c.args.self.now ask ≡ true = sym c.takes_bytes.ensures.value ∙ search rules in
    let legal = takes_legal c.args.self.now ask takes in
    let sizes : c.self.inside.sizes ≡ c.args.self.now.sizes = ap (λ (m : Partial). m.sizes) c.self.view_is in
    let small : ask.size ≤ 8 = small_size c.self.inside.sizes ask.op ask.size c.self.invariant.1
    (ap (λ s. allows s ask.op ask.size) sizes
    ∙ allowed c.args.self.now ask legal) in
    fits_words ask.address ask.size small (aligned c.args.self.now ask legal)

pub serve_in_page-requires-clause-inside : goal.serve_in_page-requires-clause-inside
serve_in_page-requires-clause-inside c =
    let ask = c.args.ask.now in
    let takes : takes_bytes c.args.self.now ask ≡ true = sym c.takes_bytes.ensures.value ∙ search rules in
    let legal = takes_legal c.args.self.now ask takes in
    let sizes : c.self.inside.sizes ≡ c.args.self.now.sizes = ap (λ (m : Partial). m.sizes) c.self.view_is in
    let small : ask.size ≤ 8 = small_size c.self.inside.sizes ask.op ask.size c.self.invariant.1
    (ap (λ s. allows s ask.op ask.size) sizes
    ∙ allowed c.args.self.now ask legal) in
    in_page ask.address ask.size small (aligned c.args.self.now ask legal)

pub serve_in_page-requires-clause-in_space : goal.serve_in_page-requires-clause-in_space
serve_in_page-requires-clause-in_space c =
    let takes : takes_bytes c.args.self.now c.args.ask.now ≡ true = sym c.takes_bytes.ensures.value ∙ search rules in
    subst (λ n. n + 2 ^ c.args.ask.now.size ≤ 2 ^ 64)
    (sym (unmoved c.args.self.now c.args.ask.now (c.is_mirrored.ensures c.if-is_mirrored.false)))
    (in_space c.args.self.now c.args.ask.now
    (subst (λ (ranges : List Range). AreWithin ranges (2 ^ 64)) (ap (λ (m : Partial). m.ranges) c.self.view_is)
    c.self.invariant.0)
    (takes_legal c.args.self.now c.args.ask.now takes))

pub returns-clause-after : goal.returns-clause-after
returns-clause-after c =
    let memory = c.args.self.now in
    let ask = c.args.ask.now in
    let takes : takes_bytes memory ask ≡ true = sym c.takes_bytes.ensures.value ∙ search rules in
    let now = paged_cells c.serve_in_page.new.pages in
    let left = paged_cells c.forget.new.self in
    let served : record memory { cells = now } ≡ after_partial memory ask =
    served_is memory ask c.self.inside.kind c.deref.result.now (paged_cells c.page_for.new.self) now takes
    (c.is_mirrored.ensures c.if-is_mirrored.false)
    (ap (λ (m : Partial). m.kind) c.self.view_is)
    (c.deref.ensures.value ∙ ap (λ (m : Partial). m.volatile) c.self.view_is)
    (c.in_ok-at.ensures.same ∙ ap (λ (m : Partial). m.cells) c.self.view_is)
    c.serve_in_page.ensures.after in
    ap (λ (m : Partial). record m { cells = left }) c.self.view_is
    ∙ forgot_is memory ask c.args.flags.now c.args.first now left takes served c.forget.ensures.after

pub returns-clause-pattern : goal.returns-clause-pattern
returns-clause-pattern c =
    let memory = c.args.self.now in
    let ask = c.args.ask.now in
    let takes : takes_bytes memory ask ≡ true = sym c.takes_bytes.ensures.value ∙ search rules in
    ap (λ (p : Pattern). record p { bytes = c.serve_in_page.new.cells }) (c.answer-2.view_is ∙ c.head.ensures)
    ∙ answered_legal memory ask c.serve_in_page.new.cells (takes_legal memory ask takes)
    (c.serve_in_page.ensures.shown
    ∙ ap (shown_cells (reply_op_of ask.op))
    (window_is memory ask c.deref.result.now (paged_cells c.page_for.new.self)
    (c.is_mirrored.ensures c.if-is_mirrored.false)
    (c.deref.ensures.value ∙ ap (λ (m : Partial). m.volatile) c.self.view_is)
    (c.in_ok-at.ensures.same ∙ ap (λ (m : Partial). m.cells) c.self.view_is)))
