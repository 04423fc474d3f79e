-- A master's lines more.
use Rattle.std.proofs.Common.{◌≡◌, ◌∙◌, ◌++◌, ◌∷◌, [], ◌+◌, ℕ, List, Some, slice_get, sym, ap, length-append}
use Rattle.std.proofs.lemmas.Option.{slice_get-get_or}
use Rattle.tl_script.specs.System.{sends}
use Rattle.tl_script.specs.Trace.{lines_of, trace_text}
use Rattle.tl_script.specs.declared.operation.Job.{Job}
use Rattle.tl_serial.specs.Serial.{asks_in, log_of}
use Rattle.tl_serial.proofs.Sending.{asked_more, sources_are, log_of-push, trace_text-push}
use Rattle.tl_serial.proofs.text.write_masters.Goals as goal

pub write_master-requires-clause-source : goal.write_master-requires-clause-source
write_master-requires-clause-source c =
    let m = c.loop-master.master in
    let jobs = c.index-jobs-master.result in
    let at : slice_get c.args.system.now.jobs m ≡ Some jobs =
    ap (λ (js : List (List Job)). slice_get js m) (sym c.jobs-jobs.ensures.value)
    ∙ slice_get-get_or c.jobs-jobs.result.now m jobs c.loop-master-test.true
    ∙ ap (λ (j : List Job). Some j) (sym c.index-jobs-master.is) in
    sources_are c.args.system.now m jobs c.jobs-jobs.ensures.lawful
    (rw (← c.jobs-jobs.ensures.value) c.loop-master-test.true) at

pub loop-master-preserved : goal.loop-master-preserved
loop-master-preserved c =
    let before = c.loop-master.invariant in
    let mine = c.in_ok-write_master.ensures in
    let m = c.loop-master.master in
    let jobs = c.index-jobs-master.result in
    let at : slice_get c.args.system.now.jobs m ≡ Some jobs =
    ap (λ (js : List (List Job)). slice_get js m) (sym c.jobs-jobs.ensures.value)
    ∙ slice_get-get_or c.jobs-jobs.result.now m jobs c.loop-master-test.true
    ∙ ap (λ (j : List Job). Some j) (sym c.index-jobs-master.is) in
    let last : asks_in mine.entries ≡ sends jobs = mine.asked in
    record {
      traces = before.traces ++ mine.entries ∷ [];
      counted = length-append before.traces (mine.entries ∷ []) ∙ ap (λ (n : ℕ). n + 1) before.counted;
      asked = asked_more before.traces mine.entries c.args.system.now.jobs m jobs at before.asked last;
      stands = λ keeps fresh. rw (log_of-push before.traces mine.entries, before.counted)
          (mine.stands keeps (log_of before.traces) (before.stands keeps fresh));
      is =
          mine.is ∙ ap (λ (text : List ℕ). text ++ lines_of m mine.entries) before.is
          ∙ sym (trace_text-push before.traces mine.entries
          ∙ ap (λ (n : ℕ). trace_text before.traces ++ lines_of n mine.entries) before.counted);
    }
