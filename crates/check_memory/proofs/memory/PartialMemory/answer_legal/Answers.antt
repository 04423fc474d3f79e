use Rattle.std.proofs.Common.{◌≡◌, ◌∙◌, ◌+◌, ◌^◌, ◌≤◌, List, true, length, drop, sym, subst, ap, arith, rules}
use Rattle.std.proofs.lemmas.List.{length-take}
use Rattle.tl_types.specs.Operation.{reply_op_of, reply_carries_bytes}
use Rattle.tl_map.specs.declared.range.Range.{Range}
use Rattle.tl_ops.specs.Support.{allows}
use Rattle.check_memory.specs.Cells.{unknown_where}
use Rattle.check_memory.specs.Partial.{Partial, holds, window_of, AreWithin}
use Rattle.check_memory.specs.Pattern.{Pattern}
use Rattle.check_memory.specs.Paged.{paged_cells}
use Rattle.check_memory.proofs.Legal.{allowed, small_size, aligned, fits_words, in_page}
use Rattle.check_memory.proofs.SeenWindows.{all_looked, answered, in_space, looked, unmoved}
use Rattle.check_memory.proofs.memory.PartialMemory.answer_legal.Goals as goal

pub read-requires-clause-fits : goal.read-requires-clause-fits
read-requires-clause-fits c =
    let ask = c.args.ask.now in
    let sizes : c.self.inside.sizes ≡ c.args.self.now.sizes = ap (λ (m : Partial). m.sizes) c.self.view_is in
    let small : ask.size ≤ 8 = small_size c.self.inside.sizes ask.op ask.size c.self.invariant.1
    (ap (λ s. allows s ask.op ask.size) sizes
    ∙ allowed c.args.self.now ask c.requires) in
    rw (c.address.ensures, c.width-else-is_mirrored.ensures.value)
    (fits_words ask.address ask.size small (aligned c.args.self.now ask c.requires))

pub read-requires-clause-inside : goal.read-requires-clause-inside
read-requires-clause-inside c =
    let ask = c.args.ask.now in
    let sizes : c.self.inside.sizes ≡ c.args.self.now.sizes = ap (λ (m : Partial). m.sizes) c.self.view_is in
    let small : ask.size ≤ 8 = small_size c.self.inside.sizes ask.op ask.size c.self.invariant.1
    (ap (λ s. allows s ask.op ask.size) sizes
    ∙ allowed c.args.self.now ask c.requires) in
    rw (c.address.ensures, c.width-else-is_mirrored.ensures.value)
    (in_page ask.address ask.size small (aligned c.args.self.now ask c.requires))

pub hide-requires : goal.hide-requires
hide-requires c =
    let ask = c.args.ask.now in
    let within : AreWithin c.args.self.now.ranges (2 ^ 64) =
    subst (λ (ranges : List Range). AreWithin ranges (2 ^ 64)) (ap (λ (m : Partial). m.ranges) c.self.view_is)
    c.self.invariant.0 in
    omega (
      arith,
      in_space c.args.self.now ask within c.requires,
      unmoved c.args.self.now ask (c.is_mirrored.ensures c.if-is_mirrored.false),
      c.address-else-is_mirrored.ensures,
      c.width-else-is_mirrored.ensures.value,
      ap length c.read.ensures,
      length-take c.width-else-is_mirrored.result (drop c.address.result (paged_cells c.self.inside.pages)),
    )

pub returns-else-is_mirrored : goal.returns-else-is_mirrored
returns-else-is_mirrored c =
    let memory = c.args.self.now in
    let ask = c.args.ask.now in
    let carries : reply_carries_bytes (reply_op_of ask.op) ≡ true = search rules in
    let seen : c.hide.new.cells ≡ window_of memory ask =
    all_looked memory ask c.hide.new.cells c.address.result c.width-else-is_mirrored.result
    (c.address.ensures ∙ unmoved memory ask (c.is_mirrored.ensures c.if-is_mirrored.false))
    c.width-else-is_mirrored.ensures.value
    (looked memory c.deref.result.now (paged_cells c.self.inside.pages) c.read.new.cells c.hide.new.cells c.address.result
    c.width-else-is_mirrored.result (c.deref.ensures.value ∙ ap (λ (m : Partial). m.volatile) c.self.view_is)
    (ap (λ (m : Partial). m.cells) c.self.view_is) c.read.ensures
    (c.hide.ensures ∙ ap (λ a. unknown_where (λ place. holds c.deref.result.now (a + place) 1) c.read.new.cells)
    (c.address-else-is_mirrored.ensures ∙ sym c.address.ensures))) in
    ap (λ (p : Pattern). record p { bytes = c.hide.new.cells }) (c.answer.view_is ∙ c.head.ensures)
    ∙ answered memory ask c.hide.new.cells c.requires carries seen

pub look-requires-clause-in_space : goal.look-requires-clause-in_space
look-requires-clause-in_space c =
    let memory = c.args.self.now in
    let ask = c.args.ask.now in
    let within : AreWithin memory.ranges (2 ^ 64) =
    subst (λ (ranges : List Range). AreWithin ranges (2 ^ 64)) (ap (λ (m : Partial). m.ranges) c.self.view_is)
    c.self.invariant.0 in
    omega (arith, in_space memory ask within c.requires, c.start.ensures.value, c.width.ensures.value)

pub returns-then-is_mirrored : goal.returns-then-is_mirrored
returns-then-is_mirrored c =
    let memory = c.args.self.now in
    let ask = c.args.ask.now in
    let carries : reply_carries_bytes (reply_op_of ask.op) ≡ true = search rules in
    ap (λ (p : Pattern). record p { bytes = c.look.new.cells }) (c.answer.view_is ∙ c.head.ensures)
    ∙ answered memory ask c.look.new.cells c.requires carries
    (all_looked memory ask c.look.new.cells c.start.result c.width.result c.start.ensures.value c.width.ensures.value
    c.look.ensures)
