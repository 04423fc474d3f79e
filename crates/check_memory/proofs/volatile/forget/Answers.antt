use Rattle.std.proofs.Common.{◌≡◌, ◌∙◌, ℕ, ◌+◌, ◌^◌, Bool, false, length, take, drop, ap, arith}
use Rattle.std.proofs.lemmas.List.{length-take-le, get_or-take}
use Rattle.check_memory.specs.Known.{replaced}
use Rattle.check_memory.specs.Cells.{unknown_where, forgotten}
use Rattle.check_memory.specs.Partial.{holds}
use Rattle.check_memory.specs.Paged.{paged_cells, content}
use Rattle.check_memory.proofs.Space.{length-tabulate}
use Rattle.check_memory.proofs.SeenWindows.{forgotten_seen}
use Rattle.check_memory.proofs.volatile.forget.Goals as goal

pub returns-clause-after : goal.returns-clause-after
returns-clause-after c =
    let pages = c.args.pages.now in
    let ask = c.args.ask.now in
    let test : ℕ → Bool = λ place. holds c.args.volatile.now place 1 in
    let flags = take c.width-2.result c.flags_of-flags.result in
    let wide : c.width-2.result ≡ 2 ^ ask.size = c.width-2.ensures.value in
    let counted : length flags ≡ 2 ^ ask.size =
    length-take-le c.width-2.result c.flags_of-flags.result
    (omega (arith, c.width-2.ensures.in_limit, c.flags_of-flags.ensures.counted)) ∙ wide in
    c.forget.ensures.after
    ∙ ap (λ (start : ℕ). forgotten flags start (paged_cells pages)) c.address-2.ensures
    ∙ forgotten_seen test flags ask.address (paged_cells pages)
    (omega (arith, counted, c.requires.in_space, length-tabulate (content pages.slots pages.known) (2 ^ 64)))
    (λ k below.
    get_or-take c.width-2.result c.flags_of-flags.result k false (omega (arith, below, counted, wide))
    ∙ c.flags_of-flags.ensures.flags k (omega (arith, below, counted, c.width.ensures.value))
    ∙ ap (λ a. holds c.args.volatile.now (a + k) 1) c.address.ensures)
    ∙ ap (λ n. replaced (paged_cells pages) ask.address (take n (drop ask.address (unknown_where test (paged_cells pages)))))
    counted
