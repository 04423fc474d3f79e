use Rattle.std.proofs.Common.{rules, ◌≡◌, ◌∙◌, ◌++◌, ◌∷◌, [], ◌+◌, ℕ, List, length, map, Some, slice_get, sym, ap, length-append}
use Rattle.std.proofs.lemmas.List.{map-append, length-map}
use Rattle.std.proofs.lemmas.Option.{slice_get-get_or}
use Rattle.tl_journal.specs.Trace.{TraceView, entries_in}
use Rattle.tl_script.specs.System.{sends}
use Rattle.tl_script.specs.declared.operation.Job.{Job}
use Rattle.tl_serial.specs.Serial.{asks_in, log_of}
use Rattle.tl_serial.proofs.Sending.{asked_more, sources_are, log_of-push}
use Rattle.tl_serial.proofs.run.run_masters.Goals as goal

pub run_master-requires-clause-source : goal.run_master-requires-clause-source
run_master-requires-clause-source c =
    let m = c.loop-master.master in
    let jobs = c.index-jobs-master.result in
    let at : slice_get c.args.system.now.jobs m ≡ Some jobs =
    ap (λ (js : List (List Job)). slice_get js m) (sym c.jobs-jobs.ensures.value)
    ∙ slice_get-get_or c.jobs-jobs.result.now m jobs c.loop-master-test.true
    ∙ ap (λ (j : List Job). Some j) (sym c.index-jobs-master.is) in
    sources_are c.args.system.now m jobs c.jobs-jobs.ensures.lawful
    (rw (← c.jobs-jobs.ensures.value) c.loop-master-test.true) at

pub loop-master-preserved : goal.loop-master-preserved
loop-master-preserved c =
    let traces = c.loop-master.traces.items in
    let trace = c.in_ok-trace.trace in
    let m = c.loop-master.master in
    let jobs = c.index-jobs-master.result in
    let pushed : c.push.new.self.items ≡ traces ++ trace ∷ [] = search rules in
    let lists : entries_in c.push.new.self.items ≡ entries_in traces ++ trace.items ∷ [] =
    ap entries_in pushed ∙ map-append (λ (t : TraceView). t.items) traces (trace ∷ []) in
    let at : slice_get c.args.system.now.jobs m ≡ Some jobs =
    ap (λ (js : List (List Job)). slice_get js m) (sym c.jobs-jobs.ensures.value)
    ∙ slice_get-get_or c.jobs-jobs.result.now m jobs c.loop-master-test.true
    ∙ ap (λ (j : List Job). Some j) (sym c.index-jobs-master.is) in
    let last : asks_in trace.items ≡ sends jobs = c.in_ok-trace.ensures.asked in
    let counted : length (entries_in traces) ≡ m =
    length-map traces (λ (t : TraceView). t.items) ∙ c.loop-master.invariant.counted in
    record {
      asked = ap (map asks_in) lists ∙ asked_more
          (entries_in traces) trace.items c.args.system.now.jobs m jobs at c.loop-master.invariant.asked last;
      counted = ap length pushed ∙ length-append traces (trace ∷ [])
          ∙ ap (λ (n : ℕ). n + 1) c.loop-master.invariant.counted;
      stands = λ keeps fresh. rw (lists, log_of-push (entries_in traces) trace.items, counted)
          (c.in_ok-trace.ensures.stands keeps (log_of (entries_in traces))
          (c.loop-master.invariant.stands keeps fresh));
    }
