-- The jobs so far, and those of the masters that are left.
use Rattle.std.proofs.Common.{◌≡◌, drop, map}
use Rattle.tl_script.specs.Master.{LawfulSoFar, jobs_from, script_master_view}
use Rattle.tl_text.specs.Reading.{with_front}
use Rattle.tl_script.proofs.masters.read_jobs.Given as goal

abbrev pub invariant-loop-m : goal.invariant-loop-m
invariant-loop-m l = record {
  read :
      with_front l.jobs.items (jobs_from l.m (map script_master_view (drop l.m l.masters)))
      ≡ jobs_from 0 (map script_master_view l.masters);
  lawful : LawfulSoFar (map (λ master. master.sources) (map script_master_view l.masters)) l.jobs.items l.m;
}
