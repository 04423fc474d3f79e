use Rattle.check_beats.proofs.Past.{asks_are_on_bus, replies_are_on_bus}
use Rattle.check_beats.proofs.laws.nothing_is_past_the_bus.Goals as goal

pub returns-clause-asks : goal.returns-clause-asks
returns-clause-asks c = asks_are_on_bus

pub returns-clause-replies : goal.returns-clause-replies
returns-clause-replies c = replies_are_on_bus
