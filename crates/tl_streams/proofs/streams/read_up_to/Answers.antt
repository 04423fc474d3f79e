-- What was read last was taken too.
use Rattle.std.proofs.Common.{arith, ◌++◌, take, Result, Ok, Err}
use Rattle.std.specs.Result.{OnErr}
use Rattle.std.proofs.lemmas.Grind.{common_steps}
use Rattle.std.proofs.KnownBytes.{Consumes-trans}
use Rattle.tl_streams.proofs.streams.read_up_to.Goals as goal

at_err : {T E P : Type 0} (r : Result T E) → P → OnErr r P
at_err (Ok x) p = tt
at_err (Err e) p = p

pub returns-in_err-extend_from_slice-in-Ok-clause-taken : goal.returns-in_err-extend_from_slice-in-Ok-clause-taken
returns-in_err-extend_from_slice-in-Ok-clause-taken g c =
    let before = c.loop-chunk.bytes.items in
    let last = take c.in-Ok.n c.read.new.buf in
    at_err c.from_residual.result (record {
      bytes = before ++ last;
      taken = Consumes-trans _ _ _ before last c.loop-chunk.invariant.taken c.in-Ok.ensures.bytes.0;
      bounded = grind (arith, common_steps);
    })
