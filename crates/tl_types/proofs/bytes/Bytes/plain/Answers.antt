use Rattle.std.proofs.Common.{◌∙◌, sym, ap}
use Rattle.tl_types.specs.Bytes.{plain_of}
use Rattle.tl_types.proofs.Given.{plain_of-given_in}
use Rattle.tl_types.proofs.bytes.Bytes.plain.Goals as goal

pub returns : goal.returns
returns c = c.as_slice.ensures.value ∙ sym (plain_of-given_in _ c.self.inside.plain.items c.self.invariant.unset)
    ∙ ap plain_of c.self.view_is
