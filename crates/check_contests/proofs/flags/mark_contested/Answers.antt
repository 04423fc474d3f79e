use Rattle.std.proofs.Common.{◌≡◌, ◌∙◌, ℕ, ◌+◌, ◌^◌, ◌<◌, ◌≤◌, ◌||◌, false, length, get_or, sym, ap, subst}
use Rattle.tl_types.specs.Request.{Request}
use Rattle.check_memory.specs.Partial.{placed}
use Rattle.check_contests.proofs.Blocks.{leaves_outside, unmet_leaves}
use Rattle.check_contests.proofs.Contested.{IsMet, atomic_at, flags_met, flags_unmet, flags_same, not_met, unshared}
use Rattle.check_contests.proofs.Marks.{shared}
use Rattle.check_contests.proofs.flags.mark_contested.Goals as goal
use Rattle.check_contests.proofs.flags.mark_contested.Goals.{else-may_meet-via-then-may_meet+else-mark_shared, else-may_meet-via-else-may_meet}

-- what is said of two requests, said of two that are the same
said : (P : Request → Request → Type 0) (a a' b b' : Request) → a ≡ a' → b ≡ b' → P a b → P a' b'
said P a a' b b' same same' is =
    let Q : Request → Type 0 = λ x. P x b in
    let R : Request → Type 0 = λ y. P a' y in
    subst R same' (subst Q same is)

pub returns-then-mark_shared-clause-flags : goal.returns-then-mark_shared-clause-flags
returns-then-mark_shared-clause-flags c k below =
    let memory = c.args.memory.now in
    let ask = c.args.ask.now in
    let other = c.args.other.now in
    let f0 = get_or c.args.flags.now k false in
    let f1 = get_or c.mark_shared.new.flags k false in
    let f2 = get_or c.mark_atomic.new.flags k false in
    let f3 = get_or c.mark_atomic-then-mark_shared.new.flags k false in
    let a : ℕ = c.args.first + k in
    let long : k < length c.mark_shared.new.flags = subst (λ n. k < n) (sym c.mark_shared.ensures.len) below in
    let long' : k < length c.mark_atomic.new.flags = subst (λ n. k < n) (sym c.mark_atomic.ensures.len) long in
    let Met : Request → Request → Type 0 = λ x y. IsMet c.mark_shared.result x y in
    let One : Request → Request → Type 0 = λ x y. f1 ≡ (f0 || shared x y a) in
    let Two : Request → Type 0 = λ x. f2 ≡ (f1 || atomic_at x a) in
    let Three : Request → Type 0 = λ y. f3 ≡ (f2 || atomic_at y a) in
    flags_met memory ask other c.args.first k c.mark_shared.result f0 f1 f2 f3 c.requires.legal
    (c.may_meet.ensures.legal c.if-may_meet.true)
    (said Met c.of-here.result (placed memory ask) c.of-there.result (placed memory other) c.of-here.ensures.value
    c.of-there.ensures.value c.mark_shared.ensures.met) c.if-mark_shared.true
    (said One c.of-here.result (placed memory ask) c.of-there.result (placed memory other) c.of-here.ensures.value
    c.of-there.ensures.value (c.mark_shared.ensures.flags k below))
    (subst Two c.of-here.ensures.value (c.mark_atomic.ensures.flags k long))
    (subst Three c.of-there.ensures.value (c.mark_atomic-then-mark_shared.ensures.flags k long'))

pub returns-then-mark_shared-clause-outside : goal.returns-then-mark_shared-clause-outside
returns-then-mark_shared-clause-outside c address beside =
    let legal = c.may_meet.ensures.legal c.if-may_meet.true in
    let there : c.of-there.result.address ≡ (placed c.args.memory.now c.args.other.now).address =
    ap (λ (r : Request). r.address) c.of-there.ensures.value in
    leaves_outside c.args.memory.now c.args.ask.now c.args.other.now c.args.first (length c.args.flags.now) address
    c.requires.reaches.own
    (c.requires.reaches.others c.args.other.now legal c.may_meet.ensures.in_limit
    (subst (λ n. n + 2 ^ c.args.other.now.size ≤ 2 ^ 64) there (c.of-there.ensures.in_space legal))
    (c.may_meet.ensures.shares c.if-may_meet.true)) beside

pub returns-else-may_meet-clause-flags : goal.returns-else-may_meet-clause-flags
returns-else-may_meet-clause-flags c k below =
    let memory = c.args.memory.now in
    let ask = c.args.ask.now in
    let other = c.args.other.now in
    let f0 = get_or c.args.flags.now k false in
    let a : ℕ = c.args.first + k in
    elim c.else-may_meet.branch [
      | else-may_meet-via-then-may_meet+else-mark_shared w ↦
          let f1 = get_or w.mark_shared.new.flags k false in
          let Met : Request → Request → Type 0 = λ x y. IsMet w.mark_shared.result x y in
          let One : Request → Request → Type 0 = λ x y. f1 ≡ (f0 || shared x y a) in
          ap (λ fs. get_or fs k false) w.flags-is
          ∙ flags_unmet memory ask other c.args.first k w.mark_shared.result f0 f1 c.requires.legal
          (said Met c.of-here.result (placed memory ask) c.of-there.result (placed memory other) c.of-here.ensures.value
          c.of-there.ensures.value w.mark_shared.ensures.met) w.if-mark_shared.false
          (said One c.of-here.result (placed memory ask) c.of-there.result (placed memory other) c.of-here.ensures.value
          c.of-there.ensures.value (w.mark_shared.ensures.flags k below))
      | else-may_meet-via-else-may_meet w ↦
          ap (λ fs. get_or fs k false) w.flags-is
          ∙ flags_same memory ask other a f0 (not_met memory ask other c.may_meet.result c.may_meet.ensures.met w.if-may_meet.false)
    ]

pub returns-else-may_meet-clause-outside : goal.returns-else-may_meet-clause-outside
returns-else-may_meet-clause-outside c address beside =
    let memory = c.args.memory.now in
    let ask = c.args.ask.now in
    let other = c.args.other.now in
    unmet_leaves memory ask other address
    (elim c.else-may_meet.branch [
      | else-may_meet-via-then-may_meet+else-mark_shared w ↦
          let Met : Request → Request → Type 0 = λ x y. IsMet w.mark_shared.result x y in
          unshared memory ask other w.mark_shared.result c.requires.legal
          (said Met c.of-here.result (placed memory ask) c.of-there.result (placed memory other) c.of-here.ensures.value
          c.of-there.ensures.value w.mark_shared.ensures.met) w.if-mark_shared.false
      | else-may_meet-via-else-may_meet w ↦
          not_met memory ask other c.may_meet.result c.may_meet.ensures.met w.if-may_meet.false
    ])
