use Rattle.std.proofs.Common.{◌∙◌, slice_index_or, None, ap, sym}
use Rattle.check_memory.specs.Partial.{Partial, visible}
use Rattle.check_memory.proofs.ByteByByte.{some_read, byte_read, is_seen}
use Rattle.check_memory.proofs.memory.PartialMemory.byte.Goals as goal

pub get-requires : goal.get-requires
get-requires c =
    let memory = c.args.self.now in
    some_read (visible memory) c.look.new.cells c.place-place.result
    (is_seen memory c.self.inside.pages c.place-place.result (sym (ap (λ (m : Partial). m.cells) c.self.view_is))
    c.place-place.ensures.in_space)
    c.look.ensures

pub returns : goal.returns
returns c =
    let memory = c.args.self.now in
    byte_read (visible memory) c.look.new.cells c.place-place.result c.get.result
    (is_seen memory c.self.inside.pages c.place-place.result (sym (ap (λ (m : Partial). m.cells) c.self.view_is))
    c.place-place.ensures.in_space)
    c.look.ensures c.get.ensures
    ∙ ap (λ place. slice_index_or (visible memory) place None) c.place-place.ensures.value
