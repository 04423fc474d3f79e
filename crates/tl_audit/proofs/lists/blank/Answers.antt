use Rattle.std.proofs.Common.{◌≡◌, ◌∙◌, None, replicate, rules}
use Rattle.std.proofs.lemmas.List.{replicate-append-replicate}
use Rattle.tl_audit.proofs.Rows.{rows_more}
use Rattle.tl_audit.proofs.lists.blank.Goals as goal

pub loop-preserved : goal.loop-preserved
loop-preserved c =
    let row = c.in_ok-from_elem.field-0 in
    let own : row.items ≡ replicate c.args.sources None = search rules in
    rows_more c.loop.lasts.items c.push.new.self.items row _ _ c.in_ok-push.ensures.items c.loop.invariant own
    ∙ replicate-append-replicate c.loop.counter 1 (replicate c.args.sources None)
