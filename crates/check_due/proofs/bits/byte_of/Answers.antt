-- Whether all bits are known, and their number.
use Rattle.check_due.proofs.Lanes.{byte-known, byte-unknown}
use Rattle.check_due.proofs.bits.byte_of.Goals as goal

pub returns-then-high-low : goal.returns-then-high-low
returns-then-high-low c =
    byte-known c.args.bits.now c.requires
    (rw (
      c.is_known.ensures,
      c.is_known-2.ensures,
      c.is_known-3.ensures,
      c.is_known-4.ensures,
      c.is_known-5.ensures,
      c.is_known-6.ensures,
      c.is_known-7.ensures,
      c.is_known-8.ensures,
    ) at c.if-high-low.true)

pub returns-else-high-low : goal.returns-else-high-low
returns-else-high-low c =
    byte-unknown c.args.bits.now c.requires
    (rw (
      c.is_known.ensures,
      c.is_known-2.ensures,
      c.is_known-3.ensures,
      c.is_known-4.ensures,
      c.is_known-5.ensures,
      c.is_known-6.ensures,
      c.is_known-7.ensures,
      c.is_known-8.ensures,
    ) at c.if-high-low.false)
