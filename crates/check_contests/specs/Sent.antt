-- What a slave makes of a request as it crossed. If a beat of it was marked corrupt, nobody knows what it wrote, and the slave may
-- deny it. It is this project's own.
use Rattle.std.specs.Prelude.{if◌then◌else◌}
use Rattle.check_cells.specs.Sent.{Sent, is_corrupt}
use Rattle.check_cells.specs.Pattern.{Pattern, unsure}
use Rattle.check_memory.specs.Partial.{Partial, after_partial}
use Rattle.check_memory.specs.Slave.{expected_of}
use Rattle.check_memory.specs.declared.slave.Slave.{Slave}
use Rattle.check_memory.specs.declared.slave.Slave.TheVariants.{Memory, Device}
use Rattle.check_contests.specs.Cut.{memory_cut}

-- the memory after a request: if a beat of it was corrupt, the bytes that it may write are unknown, as of one that was cut short
abbrev pub memory_after_sent : Partial → Sent → Partial
memory_after_sent memory sent = if is_corrupt sent then memory_cut memory sent.ask else after_partial memory sent.ask

-- the slave after it; of a device nothing is kept.
abbrev pub slave_after_sent : Slave → Sent → Slave
slave_after_sent (Memory memory) sent = Memory (memory_after_sent memory sent)
slave_after_sent Device sent = Device

-- the answer that is expected: to a corrupt request it may be denied, and an illegal one is denied as ever
abbrev pub expected_of_sent : Slave → Sent → Pattern
expected_of_sent slave sent =
    if is_corrupt sent then unsure (expected_of slave sent.ask) else expected_of slave sent.ask
