use Rattle.std.proofs.Common.{◌∙◌, ap, Some}
use Rattle.tl_slots.specs.declared.phase.Phase.TheVariants.{Posted}
use Rattle.tl_arena.proofs.arena.Arena.poster.Goals as goal

pub returns-in-Some-Posted-clause-small : goal.returns-in-Some-Posted-clause-small
returns-in-Some-Posted-clause-small c =
    let e = c.in-Some-Posted in
    ((c.phase_of.ensures (Posted e.owner e.to)).0 (e.is ∙ ap Some e.field-0-is)).fits.owner
