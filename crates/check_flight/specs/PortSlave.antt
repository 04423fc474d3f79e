-- What a port's slave makes of a request as it crossed. What stands there changes and answers as `check_memory` says
-- (`specs/Slave.antt` there), and `check_contests` if a beat was marked corrupt (`specs/Sent.antt`); the rest is this project's own.
use Rattle.std.specs.Prelude.{ℕ, ◌+◌, ◌%◌, ◌^◌, Bool, true, false, ◌||◌, List, [], Option, Some, None, unwrap_or}
use Rattle.tl_types.specs.Request.{Request}
use Rattle.check_cells.specs.Sent.{Sent}
use Rattle.check_memory.specs.declared.slave.Slave.{Slave}
use Rattle.check_memory.specs.declared.slave.Slave.TheVariants.{Memory, Device}
use Rattle.check_memory.specs.Slave.{slave_takes_bytes}
use Rattle.check_contests.specs.declared.accepted.Accepted.{Accepted}
use Rattle.check_contests.specs.Cut.{slave_cut}
use Rattle.check_contests.specs.Sent.{slave_after_sent, expected_of_sent}
use Rattle.check_contests.specs.Contests.{slave_accepting, kept_accepting, kept_of, kept_answering}
use Rattle.check_flight.specs.declared.answer.Answer.{Answer}
use Rattle.check_flight.specs.declared.order.Order.{Order}
use Rattle.check_flight.specs.declared.order.Order.TheVariants.{Accept, Reply, Any}

-- a memory or a device, when requests take effect there, whether its system says that its bytes may be unknown, and how
-- many requests have taken effect, modulo 2 ^ 64. If nobody knows when they do: how many were accepted, and those of them
-- that are not answered yet
pub record PortSlave : Type 0 where
  pub kept : Slave
  pub order : Order
  pub unknown : Bool
  pub served : ℕ
  pub contests : List Accepted

-- before any request
abbrev pub fresh_slave : Slave → Order → Bool → PortSlave
fresh_slave kept order unknown = record {
  kept = kept;
  order = order;
  unknown = unknown;
  served = 0;
  contests = [];
}

-- ---- unknown lanes

-- it is a device
abbrev pub is_device : Slave → Bool
is_device (Memory memory) = false
is_device Device = true

-- lanes of its replies may be unknown: those of a device, and of a memory of which its system says so
abbrev pub may_be_unknown : PortSlave → Bool
may_be_unknown slave = is_device slave.kept || slave.unknown

-- ---- requests

-- the slave after a request has taken effect
abbrev pub served_by : PortSlave → Sent → PortSlave
served_by slave sent = record slave { kept = slave_after_sent slave.kept sent; served = (slave.served + 1) % 2 ^ 64 }

-- what the reply to a request has to fit, with the port and the request's place in the port's list
abbrev pub answer_of : ℕ → PortSlave → Sent → Answer
answer_of port slave sent = record { reply = expected_of_sent slave.kept sent; port = port; index = slave.served }

-- the slave after a request is accepted of which nobody knows when it takes effect
abbrev pub contested_by : PortSlave → ℕ → Sent → PortSlave
contested_by slave wide sent = record slave {
  kept = slave_accepting slave.kept slave.contests sent;
  served = (slave.served + 1) % 2 ^ 64;
  contests = kept_accepting slave.kept slave.contests wide slave.served sent;
}

-- what the reply to a request has to fit that is kept as this one: what is due to that, with the source of the request
abbrev pub answer_of_kept : ℕ → Sent → Option Accepted → Option Answer
answer_of_kept port sent None = None
answer_of_kept port sent (Some entry) =
    Some (record { reply = record entry.due { source = sent.ask.source }; port = port; index = entry.index })

-- ---- memory

-- by when requests take effect there, the slave may need memory to accept a request: a page for the bytes that it takes;
-- or, if nobody knows when requests take effect, room in which each is kept until it is answered
abbrev pub may_need_to_accept_by : Order → Slave → Sent → Bool
may_need_to_accept_by Accept kept sent = slave_takes_bytes kept sent.ask
may_need_to_accept_by Reply kept sent = false
may_need_to_accept_by Any kept sent = true

-- it may need memory to answer one: a page for the bytes that it takes then
abbrev pub may_need_to_answer_by : Order → Slave → Sent → Bool
may_need_to_answer_by Accept kept sent = false
may_need_to_answer_by Reply kept sent = slave_takes_bytes kept sent.ask
may_need_to_answer_by Any kept sent = false

-- the slave may need memory to accept this request, by its own order.
abbrev pub may_need_to_accept : PortSlave → Sent → Bool
may_need_to_accept slave sent = may_need_to_accept_by slave.order slave.kept sent

-- the slave may need memory to answer this request, by its own order.
abbrev pub may_need_to_answer : PortSlave → Sent → Bool
may_need_to_answer slave sent = may_need_to_answer_by slave.order slave.kept sent

-- ---- a request is accepted, with its last beat

-- the slave afterwards, by when requests of a wide source take effect there
abbrev pub accepted_by : Order → PortSlave → ℕ → Sent → PortSlave
accepted_by Accept slave wide sent = served_by slave sent
accepted_by Reply slave wide sent = slave
accepted_by Any slave wide sent = contested_by slave wide sent

-- what the reply has to fit, if that is known then
abbrev pub due_accepted_by : Order → ℕ → PortSlave → Sent → Option Answer
due_accepted_by Accept port slave sent = Some (answer_of port slave sent)
due_accepted_by Reply port slave sent = None
due_accepted_by Any port slave sent = None

-- the same of a request that is accepted, if there is one
abbrev pub accepting : PortSlave → ℕ → Option Sent → PortSlave
accepting slave wide None = slave
accepting slave wide (Some sent) = accepted_by slave.order slave wide sent

-- what the reply has to fit, if a request is accepted and this is known then.
abbrev pub due_accepting : ℕ → PortSlave → Option Sent → Option Answer
due_accepting port slave None = None
due_accepting port slave (Some sent) = due_accepted_by slave.order port slave sent

-- ---- it is answered, with the first beat of its reply

-- the slave after a request of a wide source is answered, by when requests take effect there.
abbrev pub answered_by : Order → PortSlave → ℕ → Sent → PortSlave
answered_by Accept slave wide sent = slave
answered_by Reply slave wide sent = served_by slave sent
answered_by Any slave wide sent = record slave { contests = kept_answering slave.contests wide }

-- what the reply has to fit, if that is known as the request is answered and not before.
abbrev pub due_answered_by : Order → ℕ → PortSlave → ℕ → Sent → Option Answer
due_answered_by Accept port slave wide sent = None
due_answered_by Reply port slave wide sent = Some (answer_of port slave sent)
due_answered_by Any port slave wide sent = answer_of_kept port sent (kept_of slave.contests wide)

-- the slave after a request of a wide source is answered, if there is one.
abbrev pub answering : PortSlave → ℕ → Option Sent → PortSlave
answering slave wide None = slave
answering slave wide (Some sent) = answered_by slave.order slave wide sent

-- what the reply has to fit, if a request is answered and this is known then.
abbrev pub due_answering : ℕ → PortSlave → ℕ → Option Sent → Option Answer
due_answering port slave wide None = None
due_answering port slave wide (Some sent) = due_answered_by slave.order port slave wide sent

-- ---- a reset

-- a request is cut short that it has accepted, or begun to
abbrev pub once_cut : PortSlave → Request → PortSlave
once_cut slave ask = record slave { kept = slave_cut slave.kept ask }

-- no request is kept any more, and this stands there, if something is loaded; the places in the port's list go on
abbrev pub once_reset : PortSlave → Option Slave → PortSlave
once_reset slave loaded = record slave { kept = unwrap_or loaded slave.kept; contests = [] }
