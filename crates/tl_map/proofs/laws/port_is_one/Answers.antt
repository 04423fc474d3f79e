use Rattle.tl_map.proofs.Routing.{one_port}
use Rattle.tl_map.proofs.laws.port_is_one.Goals as goal

pub returns : goal.returns
returns c ports ask port other lawful first second =
    one_port ports lawful ask.address ask.size port other first second
