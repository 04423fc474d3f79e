use Rattle.std.proofs.Common.{arith}
use Rattle.std.proofs.lemmas.List.Elements.{All-push, All-same}
use Rattle.std.proofs.lemmas.Option.{get_or_from_slice_get}
use Rattle.tl_workers.specs.declared.setup.PortListeners.{PortListeners}
use Rattle.tl_workers.specs.Start.{IsHeardAt}
use Rattle.tl_workers.proofs.setup.port_bells_of.Goals as goal

pub loop-port-preserved : goal.loop-port-preserved
loop-port-preserved c =
    let journals = c.args.journals.now in
    let port = c.loop-port.port in
    let here : PortListeners = record { port = port; listeners = c.in-Ok-new.listeners } in
    let heard : IsHeardAt journals c.args.workers here = record {
      within = c.loop-port-test.true;
      many = c.in-Ok-new.ensures.many;
      room = λ journal at. rw (get_or_from_slice_get journals port journal 0 at) at c.in-Ok-new.ensures.room;
    } in
    record {
      bells = omega (arith, c.in-Ok-push.ensures.len, c.loop-port.invariant.bells);
      heard = All-same (IsHeardAt journals c.args.workers) _ _ c.in-Ok-push-2.ensures.items
          (All-push (IsHeardAt journals c.args.workers) c.loop-port.heard.items here c.loop-port.invariant.heard heard);
    }
