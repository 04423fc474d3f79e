use Rattle.std.proofs.Common.{◌≡◌, ◌∙◌, length, sym, ap, rules}
use Rattle.check_memory.specs.Paged.{Paged}
use Rattle.check_memory.proofs.Sheets.{length-slots_of}
use Rattle.check_memory.proofs.slots.Slots.len.Goals as goal

pub returns-clause-value : goal.returns-clause-value
returns-clause-value c =
    let numbers = c.self.inside.numbers.items in
    let is : c.len.result ≡ length numbers = search rules in
    is ∙ sym (length-slots_of numbers c.self.inside.sheets.items) ∙ ap (λ (p : Paged). length p.slots) c.self.view_is
