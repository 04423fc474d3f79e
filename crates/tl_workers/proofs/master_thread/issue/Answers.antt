use Rattle.std.proofs.Common.{List, sym, subst}
use Rattle.tl_map.specs.declared.range.Range.{Range}
use Rattle.tl_master.specs.Master.{MasterState}
use Rattle.tl_workers.specs.Trace.{HasAsked, IsSame}
use Rattle.tl_workers.proofs.Asking.{same_then, same_asked, issue_asks}
use Rattle.tl_map.proofs.Routing.{routed_in_range}
use Rattle.tl_workers.proofs.master_thread.issue.Goals as goal

pub returns-in-Ok-clause-asked : goal.returns-in-Ok-clause-asked
returns-in-Ok-clause-asked g c =
    let ranges = c.map-map.result.now in
    subst (λ (rs : List (List Range)). HasAsked rs c.args.master.now c.args.ask.now c.issue.new.self) c.map-map.ensures
    (same_asked ranges c.args.master.now c.loop.master c.issue.new.self c.args.ask.now c.loop.invariant.2
    (issue_asks ranges c.loop.master c.args.ask.now c.in-Ok.issued c.issue.new.self c.in-Ok.ensures.issues c.in-Ok.ensures.asked))

pub returns-in-Ok-clause-port : goal.returns-in-Ok-clause-port
returns-in-Ok-clause-port g c =
    let posted = c.in-Ok.ensures.issues.posted in
    let within = routed_in_range c.map-map.result.now c.args.ask.now c.in-Ok.ensures.issues.ticket.port posted.routed in
    rw (posted.port, ← c.map-map.ensures) within

pub loop-preserved : goal.loop-preserved
loop-preserved g c =
    let refused = subst (λ (x : MasterState). IsSame c.args.master.now x)
    (sym c.in_default.ensures.issues.0) c.loop.invariant.2 in (
      c.loop.invariant.0,
      c.loop.invariant.1,
      same_then c.args.master.now c.issue.new.self c.look_at_all.new.master refused c.look_at_all.ensures,
    )
