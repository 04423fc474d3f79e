use Rattle.std.proofs.Common.{◌≡◌, ◌∙◌, ℕ, ◌+◌, ◌/◌, ◌<◌, ◌≤◌, ⊎_elim, true, false, Bool, get_or, subst, sym, ap, arith, rules}
use Rattle.std.proofs.lemmas.Bool.{cases_lt}
use Rattle.check_memory.specs.Paged.{Paged, paged_cells, HasPage, KeepsPages}
use Rattle.check_memory.proofs.ByteByByte.{still_there}
use Rattle.check_memory.proofs.place.hold_flagged.Goals as goal
use Rattle.check_memory.proofs.place.hold_flagged.Goals.{then-flags-place+in_ok-page_for, else-flags-place}

-- the pages that are there after one place more
abbrev AreHeld : Paged → Paged → (ℕ → Bool) → ℕ → ℕ → Type 0
AreHeld before now test address count =
    (paged_cells now ≡ paged_cells before)
    × KeepsPages before.slots now.slots
    × ((k : ℕ) → k < count → test k ≡ true → HasPage now.slots ((address + k) / 256))

pub loop-place-preserved : goal.loop-place-preserved
loop-place-preserved c =
    let place = c.loop-place.place in
    let test : ℕ → Bool = λ k. get_or c.args.flags.now k false in
    let P : Paged → Type 0 = λ now. AreHeld c.args.pages.now now test c.args.address (place + 1) in
    elim c.if-flags-place.branch [
      | then-flags-place+in_ok-page_for w ↦
          subst P (sym w.pages-is) (
            w.page_for.ensures.same ∙ c.loop-place.invariant.0,
            λ number at is. w.page_for.ensures.kept number at (c.loop-place.invariant.1 number at is),
            λ k below flagged. ⊎_elim
                (λ (before : k < place).
                still_there c.loop-place.pages.slots w.page_for.new.self.slots ((c.args.address + k) / 256)
                w.page_for.ensures.kept (c.loop-place.invariant.2 k before flagged))
                (λ (from : place ≤ k).
                let last : place ≡ k = omega (arith, from, below) in
                let Q : ℕ → Type 0 = λ n. HasPage w.page_for.new.self.slots ((c.args.address + n) / 256) in
                subst Q last (w.in_ok-page_for.field-0, w.in_ok-page_for.ensures.at))
                (cases_lt k place),
          )
      | else-flags-place w ↦
          let unflagged : get_or c.args.flags.now place false ≡ false = search rules in
          subst P (sym w.pages-is) (
            c.loop-place.invariant.0,
            c.loop-place.invariant.1,
            λ k below flagged. ⊎_elim
                (λ (before : k < place). c.loop-place.invariant.2 k before flagged)
                (λ (from : place ≤ k).
                let last : place ≡ k = omega (arith, from, below) in
                let never : false ≡ true = sym unflagged ∙ ap test last ∙ flagged in cc)
                (cases_lt k place),
          )
    ]
