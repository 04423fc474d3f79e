use Rattle.check_sides.proofs.Setting.{is_set_by}
use Rattle.check_sides.proofs.groups.is_any_set.Goals as goal

pub returns : goal.returns
returns c = is_set_by c.has_set.result c.args.flags.now c.has_set.ensures
