-- What may go to a thread of its own: a master may, since its seat, the tickets that are out and its trace may. It is
-- proved here, since the toolchain writes no such lemma of a struct with tickets.
use mathlib.Core.List.{List}
use Prim.Native.Nat.{ℕ}
use denote.RattleType.{RattleType}
use denote.Struct.Declared.{shape}
use denote.Struct.Tuple.{TupleAt, type_at, field_at}
use denote.Param.Send.{IsSend, AllSend, recorded_send, struct_send, sendable}
use Rattle.std.proofs.Crossing.{crosses}
use Rattle.tl_arena.proofs.Crossing.{ticket_send}
use Rattle.tl_arena.proofs.seats.MasterSeat.TheSendSync as seat
use Rattle.tl_journal.proofs.trace.Trace.TheSendSync as trace
use Rattle.tl_types.proofs.request.Ask.TheSendSync as request
use Rattle.tl_types.proofs.reply.Reply.TheSendSync as reply
use Rattle.tl_master.specs.contracts.master.Master as Master
use Rattle.tl_master.specs.contracts.master.Master.TheInside as inside

fields_send : IsSend inside.the_row
fields_send = recorded_send inside.the_field.row _ _ inside.the_type.to_one
    (struct_send (shape inside.the_type) (search
    (sendable, crosses, ticket_send, seat.the_send, trace.the_send, request.the_send, reply.the_send) depth 20))

pub master_send : IsSend Master.the_row
master_send = search (sendable, fields_send) depth 12

-- a tuple may, and what a closure takes along, where each of its values may
pub tuple_send : (name : List ℕ) (values : List RattleType) → AllSend (shape (type_at name values)).fields
    → IsSend (TupleAt name values)
tuple_send name values all =
    recorded_send (field_at name values).row _ _ (type_at name values).to_one
    (struct_send (shape (type_at name values)) all)
