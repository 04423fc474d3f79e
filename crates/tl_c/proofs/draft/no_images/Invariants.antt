-- Nothing was handed in so far.
use Rattle.std.proofs.Common.{◌≡◌, None, replicate}
use Rattle.tl_c.specs.Draft.{slots_of}
use Rattle.tl_c.proofs.draft.no_images.Given as goal

abbrev pub invariant-loop-port : goal.invariant-loop-port
invariant-loop-port l = slots_of l.images.items ≡ replicate l._port None
