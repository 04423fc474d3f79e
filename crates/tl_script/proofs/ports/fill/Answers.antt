-- The bytes that the pairs spell, and zero bytes after them.
use Rattle.std.proofs.Common.{arith, rules}
use Rattle.tl_script.proofs.Resets.{filled-resized}
use Rattle.tl_script.proofs.ports.fill.Goals as goal

pub returns-clause-value : goal.returns-clause-value
returns-clause-value c =
    filled-resized c.args.count c.in_ok-bytes.bytes.len c.args.text.now c.in_ok-bytes.bytes.items c.resize.new.self.items
    (search rules) (omega arith) c.in_ok-bytes.ensures
    c.in_ok-resize.ensures.items
