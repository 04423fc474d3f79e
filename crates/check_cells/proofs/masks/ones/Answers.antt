use Rattle.std.proofs.Common.{◌≡◌, ◌∙◌, ◌-◌, ◌/◌, ◌^◌, ap, rules}
use Rattle.tl_types.proofs.Given.{ones_are}
use Rattle.check_cells.proofs.masks.ones.Goals as goal

pub returns : goal.returns
returns c = let is : c.from.result ≡ 255 = search rules in
    record { value = ap (λ n. n / 2 ^ (8 - c.args.width)) is ∙ ones_are c.args.width c.requires }
