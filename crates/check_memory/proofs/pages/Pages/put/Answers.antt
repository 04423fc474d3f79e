use Rattle.std.proofs.Common.{◌∙◌, ℕ, ◌^◌, ◌<◌, [], ◌∷◌, length, Option, sym, ap, arith}
use Rattle.check_memory.specs.Known.{replaced}
use Rattle.check_memory.specs.Paged.{paged_cells, content}
use Rattle.check_memory.proofs.ByteByByte.{one-forgotten}
use Rattle.check_memory.proofs.Space.{length-tabulate}
use Rattle.check_memory.proofs.pages.Pages.put.Goals as goal

pub returns-in-None-clause-after : goal.returns-in-None-clause-after
returns-in-None-clause-after c =
    let pages = c.args.self.now in
    let below : c.args.address < length (paged_cells pages) =
    omega (arith, c.ranges.address.fits, length-tabulate (content pages.slots pages.known) (2 ^ 64)) in
    c.forget.ensures.after ∙ one-forgotten (paged_cells pages) c.args.address below
    ∙ ap (λ (byte : Option ℕ). replaced (paged_cells pages) c.args.address (byte ∷ [])) (sym c.in-None.is)
