use Rattle.std.proofs.Common.{◌∙◌, ◌^◌, length, sym, ap}
use Rattle.check_memory.specs.Partial.{Partial}
use Rattle.check_memory.specs.Paged.{content}
use Rattle.check_memory.proofs.Space.{length-tabulate}
use Rattle.check_memory.proofs.memory.PartialMemory.load_part.Goals as goal

pub returns-in_err-at-clause-space : goal.returns-in_err-at-clause-space
returns-in_err-at-clause-space c =
    let pages = c.self.inside.pages in
    sym (ap (λ (m : Partial). length m.cells) c.self.view_is)
    ∙ length-tabulate (content pages.slots pages.known) (2 ^ 64)

pub returns-clause-space : goal.returns-clause-space
returns-clause-space c =
    let pages = c.self.inside.pages in
    sym (ap (λ (m : Partial). length m.cells) c.self.view_is)
    ∙ length-tabulate (content pages.slots pages.known) (2 ^ 64)
