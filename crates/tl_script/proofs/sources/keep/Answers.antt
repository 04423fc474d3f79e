-- The owners are those of the blocks of the counts.
use Rattle.tl_script.proofs.sources.keep.Goals as goal

pub returns : goal.returns
returns c =
    rw (c.in-Ok-new.ensures.made, c.deref-2.ensures.value, ← c.in-Ok.ensures, ← c.deref.ensures.value)
    c.in-Ok-blocks.ensures.made
