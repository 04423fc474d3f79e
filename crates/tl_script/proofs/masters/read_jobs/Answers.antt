-- One more master's operations are read.
use Rattle.std.proofs.Common.{◌≡◌, ◌∙◌, length, map, option_map, Some, slice_get, arith, ap, sym}
use Rattle.std.proofs.lemmas.Grind.{common_steps}
use Rattle.std.proofs.lemmas.Option.{slice_get-get_or, slice_get-map}
use Rattle.tl_script.specs.Master.{ScriptMaster, script_master_view}
use Rattle.tl_script.specs.declared.parts.ScriptMaster as code_master
use Rattle.tl_script.proofs.Jobs.{lawful_more}
use Rattle.tl_script.proofs.masters.read_jobs.Goals as goal

pub loop-m-preserved : goal.loop-m-preserved
loop-m-preserved c =
    let masters = c.args.masters.now in
    let m = c.loop-m.m in
    let master = c.index-masters-m.result in
    let jobs = c.in_ok-read_operations.field-0 in
    let here : slice_get (map (λ (each : ScriptMaster). each.sources) (map script_master_view masters)) m ≡ Some master.sources =
    slice_get-map (λ (each : ScriptMaster). each.sources) (map script_master_view masters) m
    ∙ ap (option_map (λ (each : ScriptMaster). each.sources)) (slice_get-map script_master_view masters m
    ∙ ap (option_map script_master_view) (slice_get-get_or masters m master c.loop-m-test.true
    ∙ ap (λ (each : code_master.ScriptMaster). Some each) (sym c.index-masters-m.is))) in
    record {
      read = grind (arith, common_steps);
      lawful = rw c.in_ok-push.ensures.items (lawful_more
          (map (λ (each : ScriptMaster). each.sources) (map script_master_view masters)) c.loop-m.jobs.items jobs m master.sources
          c.loop-m.invariant.lawful here c.in_ok-read_operations.ensures.lawful);
    }

pub returns-clause-lawful : goal.returns-clause-lawful
returns-clause-lawful c = let over : c.loop-m.m ≡ length c.args.masters.now = omega arith in
    rw (← over) c.loop-m.invariant.lawful
