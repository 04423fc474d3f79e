use Rattle.std.proofs.Common.{◌∙◌, sym, ap, length}
use Rattle.tl_types.proofs.Given.{length-given_in}
use Rattle.tl_types.proofs.bytes.Bytes.len.Goals as goal

pub returns-clause-value : goal.returns-clause-value
returns-clause-value c =
    c.len.ensures.value ∙ sym (length-given_in _ c.self.inside.plain.items) ∙ ap length c.self.view_is
