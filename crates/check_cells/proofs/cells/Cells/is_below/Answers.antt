use Rattle.std.proofs.Common.{◌≡◌, ℕ, ◌+◌, ◌*◌, ◌/◌, ◌%◌, length, refl, subst, arith, rules}
use Rattle.check_cells.specs.Known.{IsKeptIn}
use Rattle.check_cells.proofs.KeptParts.{kept_join, below_from_kept, kept_from_below}
use Rattle.check_cells.proofs.cells.Cells.is_below.Goals as goal

pub returns-then-rest-eq0 : goal.returns-then-rest-eq0
returns-then-rest-eq0 c =
    let less = c.args.self.now in
    let more = c.args.other.now in
    let all : 8 * c.loop-word.word ≡ length less =
    omega (arith, c.len-len.ensures.value, c.loop-word-test.false, c.loop-word.auto.word-end, c.if-rest-eq0.true) in
    let long : length more ≡ length less =
    omega (arith, c.len-len.ensures.value, c.len.ensures.value, c.if-len.false) in
    let kept : IsKeptIn less more 0 (length less) =
    subst (λ (n : ℕ). IsKeptIn less more 0 n) all c.loop-word.invariant in
    (λ _. below_from_kept less more (length less) refl long kept, λ _. search rules)

pub returns-else-rest-eq0 : goal.returns-else-rest-eq0
returns-else-rest-eq0 c =
    let less = c.args.self.now in
    let more = c.args.other.now in
    let n = c.len-len.result in
    let words = 8 * (n / 8) in
    let front : 8 * c.loop-word.word ≡ words =
    omega (arith, c.loop-word-test.false, c.loop-word.auto.word-end) in
    let long : length more ≡ length less =
    omega (arith, c.len-len.ensures.value, c.len.ensures.value, c.if-len.false) in
    let all : words + n % 8 ≡ length less = omega (arith, c.len-len.ensures.value) in
    let kept : IsKeptIn less more 0 words =
    subst (λ (m : ℕ). IsKeptIn less more 0 m) front c.loop-word.invariant in (
      λ yes.
          let rest = c.is_part_below-else-rest-eq0.ensures.0 yes in
          let every : IsKeptIn less more 0 (length less) =
          subst (λ (m : ℕ). IsKeptIn less more 0 m) all (kept_join less more 0 words (words + n % 8) kept rest) in
          below_from_kept less more (length less) refl long every,
      λ below. c.is_part_below-else-rest-eq0.ensures.1
          (kept_from_below less more words (words + n % 8) below),
    )
