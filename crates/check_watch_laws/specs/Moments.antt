-- What a port's slave sees of requests: that they are accepted, and that they are answered; and what is due of their
-- replies then, by the slave's order (`PortSlave.antt` of `check_flight`). It is this project's own.
use Rattle.std.specs.Prelude.{◌≡◌, ℕ, List, [], ◌∷◌, ◌++◌, map, filter, Option, Some, None}
use Rattle.check_cells.specs.Pattern.{Pattern}
use Rattle.check_cells.specs.Sent.{Sent}
use Rattle.check_flight.specs.declared.answer.Answer.{Answer}
use Rattle.check_flight.specs.PortSlave.{PortSlave, accepting, answering, due_accepting, due_answering}
use Rattle.check_watch.specs.declared.beat.Beat.{Beat}
use Rattle.check_watch.specs.declared.beat.Beat.TheVariants.{A, D}
use Rattle.check_watch.specs.Plan.{Plan, Sighting, wide_of}
use Rattle.check_watch_laws.specs.Crossed.{AskSeen, ask_ended}
use Rattle.check_watch_laws.specs.Memories.{is_for, ask_answered, with_source, reset_of, AreEntries, exchanges_at, entries_of}

-- ---- moments

-- a request is accepted, with its last beat, or answered, with the first beat of its reply
pub data Act : Type 0 where
  Accepts : Act
  Answers : Act

-- so it is with this request of a wide source
pub record RequestMoment : Type 0 where
  pub act : Act
  pub wide : ℕ
  pub sent : Sent

-- that a whole request of a wide source is accepted, or answered.
abbrev pub moment_of : Act → ℕ → AskSeen → RequestMoment
moment_of act wide seen = record { act = act; wide = wide; sent = seen.sent }

-- the moments of a port with a beat: one that it ends, or one whose reply it begins
abbrev pub moments_with : Plan → ℕ → List Sighting → Sighting → Beat → List RequestMoment
moments_with plan port past x (A beat) =
    map (moment_of Accepts (wide_of plan x.link beat.source))
    (filter (is_for plan port) (ask_ended plan.layout past x (A beat)))
moments_with plan port past x (D beat) =
    map (moment_of Answers (wide_of plan x.link beat.source))
    (filter (is_for plan port) (ask_answered plan past x (D beat)))

-- the moments of a port, in order
abbrev pub moments : Plan → ℕ → List Sighting → List RequestMoment
moments plan port [] = []
moments plan port (x ∷ past) = moments plan port past ++ moments_with plan port past x x.beat

-- ---- what a slave makes of them

-- the slave after a request of a wide source is accepted, or after it is answered; unchanged if there is no request.
abbrev pub acting : Act → PortSlave → ℕ → Option Sent → PortSlave
acting Accepts slave wide sent = accepting slave wide sent
acting Answers slave wide sent = answering slave wide sent

-- what the reply to a request of a wide source has to fit, if that becomes known as it is accepted, or as it is answered.
abbrev pub due_acting : Act → ℕ → PortSlave → ℕ → Option Sent → Option Answer
due_acting Accepts port slave wide sent = due_accepting port slave sent
due_acting Answers port slave wide sent = due_answering port slave wide sent

-- the slave after one moment.
abbrev pub slave_then : PortSlave → RequestMoment → PortSlave
slave_then slave moment = acting moment.act slave moment.wide (Some moment.sent)

-- the slave after each of these moments in turn
abbrev pub slave_after_all : PortSlave → List RequestMoment → PortSlave
slave_after_all slave [] = slave
slave_after_all slave (moment ∷ moments) = slave_after_all (slave_then slave moment) moments

-- the request, with what its reply has to fit, if that is known; both with the wide source, by which the port knows it
abbrev pub entry_due : ℕ → Sent → Option Answer → List (Sent × Pattern)
entry_due wide sent None = []
entry_due wide sent (Some answer) = (with_source wide sent, record answer.reply { source = wide }) ∷ []

-- the requests whose replies are known to have to fit something, each with that, in the order in which it becomes known
unfoldable pub dues_of : ℕ → PortSlave → List RequestMoment → List (Sent × Pattern)
dues_of port slave [] = []
dues_of port slave (moment ∷ moments) =
    entry_due moment.wide moment.sent (due_acting moment.act port slave moment.wide (Some moment.sent))
    ++ dues_of port (slave_then slave moment) moments

-- this is what is due of a port's replies, by its slave; and what was captured of each source fits it
pub record IsDueAt (plan : Plan) (past : List Sighting) (port : ℕ) (history : List (Sent × Pattern)) : Type 0 where
  pub dues : history ≡ dues_of port (reset_of plan port) (moments plan port past)
  pub captured : (wide : ℕ) → AreEntries wide (exchanges_at plan port wide past) (entries_of wide history)
