use Rattle.std.proofs.Common.{◌≡◌, ◌∙◌, ℕ, ◌+◌, ◌/◌, ◌<◌, ◌≤◌, ⊎_elim, subst, arith}
use Rattle.std.proofs.lemmas.Bool.{cases_lt}
use Rattle.check_memory.specs.Paged.{HasPage}
use Rattle.check_memory.proofs.ByteByByte.{still_there}
use Rattle.check_memory.proofs.place.hold.Goals as goal

pub loop-place-preserved : goal.loop-place-preserved
loop-place-preserved c = (
  c.page_for.ensures.same ∙ c.loop-place.invariant.0,
  λ number at is. c.page_for.ensures.kept number at (c.loop-place.invariant.1 number at is),
  λ k below. ⊎_elim
      (λ (before : k < c.loop-place.place).
      still_there c.loop-place.pages.slots c.page_for.new.self.slots ((c.args.address + k) / 256) c.page_for.ensures.kept
      (c.loop-place.invariant.2 k before))
      (λ (from : c.loop-place.place ≤ k).
      let last : c.loop-place.place ≡ k = omega (arith, from, below) in
      let P : ℕ → Type 0 = λ n. HasPage c.page_for.new.self.slots ((c.args.address + n) / 256) in
      subst P last (c.in_ok-page_for.field-0, c.in_ok-page_for.ensures.at))
      (cases_lt k c.loop-place.place),
)
