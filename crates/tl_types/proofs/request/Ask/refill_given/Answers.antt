use Rattle.std.proofs.Common.{Some, arith}
use Rattle.std.proofs.lemmas.List.{length-map}
use Rattle.tl_types.proofs.Operations.{byte_count-le}
use Rattle.tl_types.proofs.request.Ask.refill_given.Goals as goal

pub refill_given-requires : goal.refill_given-requires
refill_given-requires c =
    let few = byte_count-le c.args.op c.args.size c.requires.in_limit in
    omega (arith, few, c.requires.counted, length-map c.args.bytes.now (λ byte. Some byte))
