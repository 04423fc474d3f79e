-- A script that spells a system is shorter than what is read at most, so the reader is at its end.
use Rattle.std.proofs.Common.{rules, arith}
use Rattle.tl_script.specs.Script.{Spells}
use Rattle.tl_streams.proofs.Scripts.{length-named}
use Rattle.tl_streams.proofs.input.read_whole_system.Goals as goal

pub returns-clause-ok : goal.returns-clause-ok
returns-clause-ok g c =
    let script = c.in_ok-script.script.items in
    let system = c.in_ok-system.system in
    let read = c.in_ok-script.ensures.bytes in
    let spelled : Spells script system = search rules in
    let short = length-named script spelled.parts spelled.named in
    record {
      script = script;
      read = record { taken = read.taken; whole = read.whole (omega arith) };
      spelled = spelled;
    }
