use Rattle.std.proofs.Common.{◌≡◌, ◌∙◌, ◌⊎◌, ℕ, ◌+◌, ◌^◌, ◌<◌, ◌≤◌, ◌||◌, false, length, get_or, sym, ap, subst, arith}
use Rattle.std.specs.Prelude.{OnOk}
use Rattle.std.proofs.lemmas.List.{get_or-replicate}
use Rattle.tl_types.specs.Request.{Request}
use Rattle.check_memory.specs.Partial.{Partial, placed}
use Rattle.check_memory.proofs.Legal.{takes_legal}
use Rattle.check_contests.specs.Writes.{writes, LiesIn, Reaches}
use Rattle.check_contests.proofs.Blocks.{near_reaches}
use Rattle.check_contests.proofs.Cutting.{corrupt_is}
use Rattle.check_contests.proofs.contests.forget_corrupt.Goals as goal

-- the bytes near a window reach far enough
reached : (memory : Partial) (ask here : Request) (start first width : ℕ) → here ≡ placed memory ask → start ≡ here.address
    → width ≡ 2 ^ here.size → width ≤ 256 → here.address + 2 ^ ask.size ≤ 2 ^ 64 → first ≤ start
    → ((start ≤ first + 256) ⊎ (first + 768 ≡ 2 ^ 64)) → ((address : ℕ) → start ≤ address + 256 → first ≤ address)
    → Reaches memory ask first 768
reached memory ask here start first width same at wide limit room below reach before =
    near_reaches memory ask start first (at ∙ ap (λ (r : Request). r.address) same)
    (omega (arith, limit, wide, ap (λ (r : Request). 2 ^ r.size) same))
    (subst (λ n. n + 2 ^ ask.size ≤ 2 ^ 64) (sym at) room) below reach before

pub mark_all-requires-clause-reaches : goal.mark_all-requires-clause-reaches
mark_all-requires-clause-reaches c =
    reached c.args.memory.now c.args.ask.now c.of-here.result c.address.result c.near-first.result c.width-in_limit.result
    c.of-here.ensures.value c.address.ensures c.width-in_limit.ensures.value c.width-in_limit.ensures.in_limit
    (c.of-here.ensures.in_space (takes_legal c.args.memory.now c.args.ask.now c.requires.takes))
    c.near-first.ensures.below c.near-first.ensures.reach c.near-first.ensures.before

pub mark_all-requires-clause-fresh : goal.mark_all-requires-clause-fresh
mark_all-requires-clause-fresh c = λ k below. get_or-replicate 768 k false false below

pub mark_own-requires : goal.mark_own-requires
mark_own-requires c =
    let memory = c.args.memory.now in
    let ask = c.args.ask.now in
    let reaches : Reaches memory ask c.near-first.result 768 =
    reached memory ask c.of-here.result c.address.result c.near-first.result c.width-in_limit.result
    c.of-here.ensures.value c.address.ensures c.width-in_limit.ensures.value c.width-in_limit.ensures.in_limit
    (c.of-here.ensures.in_space (takes_legal memory ask c.requires.takes))
    c.near-first.ensures.below c.near-first.ensures.reach c.near-first.ensures.before in
    subst (λ (r : Request). LiesIn r c.near-first.result (length c.mark_all.new.flags)) (sym c.of-here.ensures.value)
    (subst (λ (n : ℕ). LiesIn (placed memory ask) c.near-first.result n) (sym c.mark_all.ensures.len) reaches.own)

pub returns-clause-after : goal.returns-clause-after
returns-clause-after c =
    let memory = c.args.memory.now in
    let kept = c.args.kept.now in
    let ask = c.args.ask.now in
    let first = c.near-first.result in
    let marked = c.mark_all.new.flags in
    let flags = c.mark_own.new.flags in
    let reaches : Reaches memory ask first 768 =
    reached memory ask c.of-here.result c.address.result first c.width-in_limit.result
    c.of-here.ensures.value c.address.ensures c.width-in_limit.ensures.value c.width-in_limit.ensures.in_limit
    (c.of-here.ensures.in_space (takes_legal memory ask c.requires.takes))
    c.near-first.ensures.below c.near-first.ensures.reach c.near-first.ensures.before in
    let P : Partial → Type 0 = λ m. OnOk c.forget.result (c.forget.new.self ≡ m) in
    subst P
    (corrupt_is memory kept ask first marked flags (takes_legal memory ask c.requires.takes)
    (subst (λ (n : ℕ). LiesIn (placed memory ask) first n) (sym c.mark_all.ensures.len) reaches.own)
    (λ k below. c.mark_all.ensures.flags k (subst (λ n. k < n) c.mark_all.ensures.len below))
    (λ a beside. c.mark_all.ensures.outside a
    (subst (λ (n : ℕ). (a < first) ⊎ (first + n ≤ a)) c.mark_all.ensures.len beside))
    (λ k below.
    subst (λ (r : Request). get_or flags k false ≡ (get_or marked k false || writes r.op r (first + k)))
    c.of-here.ensures.value (c.mark_own.ensures.flags k below))
    c.mark_own.ensures.len)
    c.forget.ensures.after
