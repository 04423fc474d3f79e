use Rattle.std.proofs.Common.{slice_index, arith}
use Rattle.tl_types.proofs.Given.{length-given_in}
use Rattle.tl_types.proofs.Operations.{byte_count-le}
use Rattle.tl_types.proofs.request.Ask.refill_flagged.Goals as goal

pub refill_flagged-requires-clause-limit : goal.refill_flagged-requires-clause-limit
refill_flagged-requires-clause-limit c =
    let few = byte_count-le c.args.op c.args.size c.requires.lawful.in_limit in
    omega (arith, few, c.requires.lawful.counted, length-given_in (slice_index c.args.flags.now) c.args.bytes.now)
