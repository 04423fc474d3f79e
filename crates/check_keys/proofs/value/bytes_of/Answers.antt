-- One more byte is read.
use Rattle.std.proofs.Common.{◌∙◌, sym, arith}
use Rattle.std.proofs.lemmas.List.{take_rest}
use Rattle.tl_script.proofs.Resets.{pairs_of-turn}
use Rattle.check_keys.proofs.value.bytes_of.Goals as goal

pub loop-rest-preserved : goal.loop-rest-preserved
loop-rest-preserved c =
    let rest = c.loop-rest.rest.now in
    rw (c.in_ok-push.ensures.items, take_rest rest 2)
    (pairs_of-turn c.loop-rest.bytes.items rest c.in-Some.byte (omega arith) (sym c.read_pair.ensures ∙ c.in-Some.is)
    ∙ c.loop-rest.invariant)
