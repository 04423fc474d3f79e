-- A ticket may go to another thread: its request is a ghost, which owns nothing, and all else that it keeps is numbers.
-- The toolchain writes such a lemma of a struct if each field has one; a `Snapshot` has none, so it is proved here.
use denote.Param.Send.{IsSend, sendable}
use Rattle.tl_arena.specs.contracts.turn.Ticket as Ticket

pub ticket_send : IsSend Ticket.the_row
ticket_send = search sendable depth 12
