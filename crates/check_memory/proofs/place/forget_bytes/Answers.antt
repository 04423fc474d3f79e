use Rattle.std.proofs.Common.{◌≡◌, ◌∙◌, ℕ, ◌+◌, ◌^◌, ◌<◌, ◌≤◌, Bool, true, false, List, [], ◌∷◌, length, take, get_or, None, subst, sym, ap, arith, rules}
use Rattle.check_memory.specs.Known.{replaced}
use Rattle.check_memory.specs.Cells.{forgotten}
use Rattle.check_memory.specs.Paged.{Paged, paged_cells, content, KeepsPages}
use Rattle.check_memory.proofs.ByteByByte.{flag-put, flag-kept}
use Rattle.check_memory.proofs.Space.{length-tabulate}
use Rattle.check_memory.proofs.place.forget_bytes.Goals as goal
use Rattle.check_memory.proofs.place.forget_bytes.Goals.{then-flags-place, else-flags-place}

-- so many bytes are forgotten if they are flagged
abbrev IsForgotten : Paged → Paged → List Bool → ℕ → ℕ → Type 0
IsForgotten before now flags address count =
    (paged_cells now ≡ forgotten (take count flags) address (paged_cells before)) × KeepsPages before.slots now.slots

pub loop-place-preserved : goal.loop-place-preserved
loop-place-preserved c =
    let pages = c.args.pages.now in
    let flags = c.args.flags.now in
    let place = c.loop-place.place in
    let below : place < length flags = omega (arith, c.loop-place-test.true, c.loop-place.auto.place-end) in
    let inside : c.args.address + length flags ≤ length (paged_cells pages) =
    omega (arith, c.requires.in_space, length-tabulate (content pages.slots pages.known) (2 ^ 64)) in
    let P : Paged → Type 0 = λ now. IsForgotten pages now flags c.args.address (place + 1) in
    elim c.if-flags-place.branch [
      | then-flags-place w ↦
          let flagged : get_or flags place false ≡ true = search rules in
          subst P (sym w.pages-is) (
            w.put.ensures.after
                ∙ ap (λ now. replaced now (c.args.address + place) (None ∷ [])) c.loop-place.invariant.0
                ∙ flag-put flags c.args.address (paged_cells pages) place inside below flagged,
            λ number at is. w.put.ensures.kept number at (c.loop-place.invariant.1 number at is),
          )
      | else-flags-place w ↦
          let unflagged : get_or flags place false ≡ false = search rules in
          subst P (sym w.pages-is) (
            c.loop-place.invariant.0
                ∙ flag-kept flags c.args.address (paged_cells pages) place inside below unflagged,
            c.loop-place.invariant.1,
          )
    ]
