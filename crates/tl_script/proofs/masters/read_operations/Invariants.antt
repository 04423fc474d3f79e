-- The operations so far, and those of the lines that are left.
use Rattle.std.proofs.Common.{◌≡◌, ◌<◌, All, drop, length, map}
use Rattle.tl_script.specs.Master.{operations_from}
use Rattle.tl_text.specs.Reading.{with_front}
use Rattle.tl_script.specs.System.{sends}
use Rattle.tl_script.proofs.masters.read_operations.Given as goal

abbrev pub invariant-loop-n : goal.invariant-loop-n
invariant-loop-n l = record {
  read :
      with_front l.jobs (operations_from l.fn.master.sources l.fn.m l.n
      (map (λ line. line.now) (drop l.n l.fn.master.lines.items)))
      ≡ operations_from l.fn.master.sources l.fn.m 0 (map (λ line. line.now) l.fn.master.lines.items);
  counted : length l.jobs ≡ l.n;
  sources : All (λ ask. ask.source < l.fn.master.sources) (sends l.jobs);
}
