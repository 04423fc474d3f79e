use Rattle.std.proofs.Common.{◌∙◌, ap}
use Rattle.check_memory.specs.Partial.{Partial}
use Rattle.check_memory.specs.Paged.{paged_cells}
use Rattle.check_memory.proofs.SeenWindows.{looked}
use Rattle.check_memory.proofs.memory.PartialMemory.look.Goals as goal

pub returns : goal.returns
returns c =
    looked c.args.self.now c.deref.result.now (paged_cells c.self.inside.pages) c.read_bytes.new.cells c.hide.new.cells
    c.args.start c.args.width (c.deref.ensures.value ∙ ap (λ (m : Partial). m.volatile) c.self.view_is)
    (ap (λ (m : Partial). m.cells) c.self.view_is) c.read_bytes.ensures c.hide.ensures
