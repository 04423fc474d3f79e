use Rattle.tl_map.proofs.Kept.{widens_back}
use Rattle.tl_map.proofs.owners.Owner.source_of.Goals as goal

pub returns : goal.returns
returns c = widens_back c.args.self c.requires.of.0 c.args.wide c.requires.lawful.apart c.requires.of.1
