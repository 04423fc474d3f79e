-- One more byte is read.
use Rattle.std.proofs.Common.{◌∙◌, sym, arith}
use Rattle.std.proofs.lemmas.Grind.{common_steps}
use Rattle.std.proofs.lemmas.List.{take_rest}
use Rattle.tl_script.proofs.DataLemmas.{data_of-turn}
use Rattle.tl_script.proofs.data.read_data.Goals as goal

pub loop-rest-preserved : goal.loop-rest-preserved
loop-rest-preserved c =
    let bytes = c.loop-rest.bytes in
    let rest = c.loop-rest.rest.now in
    record {
      bytes = rw (c.push.ensures, take_rest rest 2)
          (data_of-turn bytes rest c.in_ok-read_byte.field-0 (omega arith)
          (sym c.read_byte.ensures ∙ c.in_ok-read_byte.was) ∙ c.loop-rest.invariant.bytes);
      room = grind (arith, common_steps);
    }
