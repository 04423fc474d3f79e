use Rattle.std.proofs.Common.{◌≡◌, ◌∙◌, ◌++◌, ◌∷◌, [], Bool, List, Some, arith, length, length-append, slice_get, sym, ap}
use Rattle.tl_types.specs.Request.{Request}
use Rattle.tl_journal.specs.Trace.{served_entry}
use Rattle.tl_map.specs.Blocks.{counts_in}
use Rattle.tl_script.specs.Operations.{job_at}
use Rattle.tl_script.specs.declared.operation.Job.TheVariants.{Send}
use Rattle.tl_serial.specs.Serial.{asks_in, numbered}
use Rattle.tl_serial.proofs.Sending.{sends-send, sends-wait, asks_in-push, numbered-push, some_sent}
use Rattle.tl_serial.proofs.run.run_master.Goals as goal
use Rattle.tl_serial.proofs.run.run_master.Goals.{else-fill, then-fill+in_ok-place}

pub send-requires-clause-source : goal.send-requires-clause-source
send-requires-clause-source c =
    let at : slice_get c.args.jobs.now c.loop-number.number ≡ Some (Send c.fill.new.ask) =
    c.fill.ensures.job ∙ ap (λ (sends : Bool). Some (job_at sends c.fill.new.ask)) c.if-fill.true in
    some_sent (slice_get (counts_in c.args.system.now.owners) c.args.master) c.args.jobs.now c.loop-number.number c.fill.new.ask at c.requires.source

pub push_reserved-requires : goal.push_reserved-requires
push_reserved-requires c =
    omega (
      arith,
      c.loop-number.invariant.few,
      c.loop-number.invariant.room,
      c.loop-number-test.true,
      c.len-number-end.ensures,
    )

pub loop-number-preserved : goal.loop-number-preserved
loop-number-preserved c =
    let jobs = c.args.jobs.now in
    let i = c.loop-number.number in
    let ask = c.fill.new.ask in
    let here : slice_get jobs i ≡ Some (job_at c.fill.result ask) = c.fill.ensures.job in
    elim c.if-fill.branch [
      | else-fill w ↦ record {
        room = rw w.trace-is c.loop-number.invariant.room;
        few = rw w.trace-is (omega (arith, c.loop-number.invariant.few));
        asked = rw w.trace-is (c.loop-number.invariant.asked
            ∙ sym (sends-wait jobs i (here ∙ ap (λ (sends : Bool). Some (job_at sends ask)) w.if-fill.false)));
        stands = λ keeps log stand. rw (w.trace-is, w.slaves-is) (c.loop-number.invariant.stands keeps log stand);
      }
      | then-fill+in_ok-place w ↦
          let entry = served_entry ask w.send.new.answer w.in_ok-place.place in
          let at : slice_get jobs i ≡ Some (Send ask) =
          here ∙ ap (λ (sends : Bool). Some (job_at sends ask)) w.if-fill.true in
          let pushed : c.if-fill.trace.items ≡ c.loop-number.trace.items ++ entry ∷ [] =
          rw (w.trace-is, ← w.in_ok-place.ensures.source)
          (rw (w.source.ensures, ← w.in_ok-place.ensures.source) at w.push_reserved.ensures.items) in
          let before = c.loop-number.trace.items in
          record {
            room = rw w.trace-is (w.push_reserved.ensures.room ∙ c.loop-number.invariant.room);
            few = omega (arith, ap length pushed, length-append before (entry ∷ []), c.loop-number.invariant.few);
            asked = ap asks_in pushed ∙ asks_in-push before entry
                ∙ ap (λ (asks : List Request). asks ++ entry.ask ∷ []) c.loop-number.invariant.asked
                ∙ sym (sends-send jobs i ask at);
            stands = λ keeps log stand. rw (pushed, w.slaves-is, numbered-push log c.args.master before entry)
                (w.in_ok-place.ensures.stands keeps (log ++ numbered c.args.master before)
                (c.loop-number.invariant.stands keeps log stand));
          }
    ]
