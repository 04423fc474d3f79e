use Rattle.std.proofs.Common.{◌∙◌, get_or, unwrap_or, None, ap}
use Rattle.std.proofs.lemmas.List.{get_or-map}
use Rattle.check_memory.proofs.sheet.ones_of.Goals as goal

pub returns : goal.returns
returns c = ap (λ bytes. get_or bytes c.args.k 0) c.plain.ensures
    ∙ get_or-map (λ byte. unwrap_or byte 0) c.args.given.now c.args.k None 0 c.requires
