-- An operation's line more.
use Rattle.std.proofs.Common.{◌≡◌, ◌∙◌, ◌++◌, ◌∷◌, [], ℕ, Bool, List, Some, slice_get, sym, ap}
use Rattle.tl_types.specs.Request.{Request}
use Rattle.tl_map.specs.Blocks.{counts_in}
use Rattle.tl_script.specs.Trace.{trace_line}
use Rattle.tl_journal.specs.Trace.{served_entry}
use Rattle.tl_script.specs.Operations.{job_at}
use Rattle.tl_script.specs.declared.operation.Job.TheVariants.{Send}
use Rattle.tl_serial.specs.Serial.{numbered}
use Rattle.tl_serial.proofs.Sending.{sends-send, sends-wait, asks_in-push, lines_of-push, numbered-push, some_sent}
use Rattle.tl_serial.proofs.text.write_master.Goals as goal
use Rattle.tl_serial.proofs.text.write_master.Goals.{else-fill, then-fill+in_ok-place+in_ok-push_entry}

pub send-requires-clause-source : goal.send-requires-clause-source
send-requires-clause-source c =
    let at : slice_get c.args.jobs.now c.loop-number.number ≡ Some (Send c.fill.new.ask) =
    c.fill.ensures.job ∙ ap (λ (sends : Bool). Some (job_at sends c.fill.new.ask)) c.if-fill.true in
    some_sent (slice_get (counts_in c.args.system.now.owners) c.args.master) c.args.jobs.now c.loop-number.number c.fill.new.ask at c.requires.source

pub loop-number-preserved : goal.loop-number-preserved
loop-number-preserved c =
    let jobs = c.args.jobs.now in
    let i = c.loop-number.number in
    let before = c.loop-number.invariant in
    let ask = c.fill.new.ask in
    let here : slice_get jobs i ≡ Some (job_at c.fill.result ask) = c.fill.ensures.job in
    elim c.if-fill.branch [
      | else-fill w ↦ record {
        entries = before.entries;
        asked = before.asked ∙ sym (sends-wait jobs i
            (here ∙ ap (λ (sends : Bool). Some (job_at sends ask)) w.if-fill.false));
        stands = λ keeps log stand. rw w.slaves-is (before.stands keeps log stand);
        is = rw w.text-is before.is;
      }
      | then-fill+in_ok-place+in_ok-push_entry w ↦
          let entry = served_entry ask w.send.new.answer w.in_ok-place.place in
          let at : slice_get jobs i ≡ Some (Send ask) =
          here ∙ ap (λ (sends : Bool). Some (job_at sends ask)) w.if-fill.true in
          let master = c.args.master in
          record {
            entries = before.entries ++ entry ∷ [];
            asked = asks_in-push before.entries entry ∙ ap (λ (asks : List Request). asks ++ ask ∷ []) before.asked
                ∙ sym (sends-send jobs i ask at);
            stands = λ keeps log stand. rw (w.slaves-is, numbered-push log master before.entries entry)
                (w.in_ok-place.ensures.stands keeps (log ++ numbered master before.entries)
                (before.stands keeps log stand));
            is = rw w.text-is (w.in_ok-push_entry.ensures.ok
                ∙ ap (λ (text : List ℕ). text ++ trace_line master entry) before.is
                ∙ sym (lines_of-push master before.entries entry c.args.text.now.items));
          }
    ]
