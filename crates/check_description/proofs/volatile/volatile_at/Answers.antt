-- The first range ends in the address space.
use Rattle.std.proofs.Common.{arith}
use Rattle.check_description.proofs.Ends.{first_within}
use Rattle.check_description.proofs.volatile.volatile_at.Goals as goal

pub volatile_in-requires : goal.volatile_in-requires
volatile_in-requires c =
    omega (
      arith,
      first_within c.args.ranges.now c.requires,
      c.first_base.ensures,
      c.first_length.ensures,
    )
