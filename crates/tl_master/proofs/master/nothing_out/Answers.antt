use Rattle.std.proofs.Common.{◌++◌, ◌∷◌, [], List, Option, None, ap, ◌∙◌}
use Rattle.std.proofs.lemmas.List.{replicate-append-replicate}
use Rattle.tl_arena.specs.Views.{TicketView}
use Rattle.tl_master.proofs.master.nothing_out.Goals as goal

pub loop-preserved : goal.loop-preserved
loop-preserved c =
    c.in_ok-push.ensures.items ∙ ap (λ (l : List (Option TicketView)). l ++ None ∷ []) c.loop.invariant
    ∙ replicate-append-replicate c.loop.counter 1 None
