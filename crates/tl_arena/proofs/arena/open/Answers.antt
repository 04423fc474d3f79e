use Rattle.std.proofs.Common.{◌∙◌}
use Rattle.tl_rule.proofs.Dealing.{opens}
use Rattle.tl_arena.specs.Key.{about_in}
use Rattle.tl_arena.proofs.arena.open.Goals as goal

pub new-requires : goal.new-requires
new-requires c = opens (about_in c.args.key.now) _ _
    (c.as_slice.ensures.value ∙ c.in_ok-words.ensures.items_if_clones_equal
    (λ y e. e)) c.in_ok-berths.ensures.many c.in_ok-berths.ensures.there c.requires.limits c.requires.owners
