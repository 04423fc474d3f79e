use Rattle.std.proofs.Common.{◌∙◌, sym, ap, length, ◌==◌}
use Rattle.tl_types.proofs.Given.{length-given_in}
use Rattle.tl_types.proofs.bytes.Bytes.is_empty.Goals as goal

pub returns : goal.returns
returns c = c.is_empty.ensures ∙ ap (λ n. n == 0)
    (sym (length-given_in _ c.self.inside.plain.items) ∙ ap length c.self.view_is)
