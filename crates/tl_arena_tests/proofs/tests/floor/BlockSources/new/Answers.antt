-- The owners that were made are those that the sources have.
use Rattle.std.proofs.Common.{◌∙◌, subst, sym}
use Rattle.tl_map.specs.Blocks.{HaveBlocks}
use Rattle.tl_map.proofs.Counted.{have_blocks}
use Rattle.tl_arena_tests.proofs.tests.floor.BlockSources.new.Goals as goal

pub invariant_of-result : goal.invariant_of-result
invariant_of-result g c =
    subst HaveBlocks (sym (c.in-Ok-new.ensures.made ∙ c.deref.ensures.value))
    (have_blocks c.args.counts.now c.in-Ok.owners.items c.in-Ok.ensures.few c.in-Ok.ensures.made)
