-- A port's slave that does requests in an order that nobody knows: each takes effect at some moment after it is accepted and
-- before its reply begins (`Moments.antt` of `check_contests`). It is this project's own.
use Rattle.std.specs.Prelude.{◌≡◌, ◌≢◌, ℕ, List, [], ◌∷◌, ◌++◌}
use Rattle.check_cells.specs.Pattern.{Pattern}
use Rattle.check_cells.specs.Sent.{Sent}
use Rattle.check_contests.specs.Laws.{IsBelowAtReset}
use Rattle.check_contests.specs.Moments.{SlaveMoment, Course, Truth, untouched, truth_after, MayAllCome}
use Rattle.check_contests.specs.Moments.SlaveMoment.{Accepts as SlaveAccepts, TakesEffect, Answers as SlaveAnswers}
use Rattle.check_contests.specs.Moments.Course.{Idle, Waiting, Served}
use Rattle.check_memory.specs.declared.slave.Slave.{Slave}
use Rattle.check_flight.specs.declared.order.Order.TheVariants.{Any}
use Rattle.check_watch.specs.declared.links.Links.TheVariants.{Both}
use Rattle.check_watch.specs.Plan.{Plan, Sighting}
use Rattle.check_watch_laws.specs.Crossings.{MessagesCross}
use Rattle.check_watch_laws.specs.Memories.{IsDoneAt, with_source, order_at, reset_of, AreEntries, exchanges_at, entries_of}
use Rattle.check_watch_laws.specs.Messages.{AreMessages}
use Rattle.check_watch_laws.specs.Moments.{RequestMoment, moments}
use Rattle.check_watch_laws.specs.Moments.Act.{Accepts, Answers}

-- ---- what is seen of such a slave

-- that the request of a wide source is answered, if it has taken effect.
abbrev pub seen_answer : ℕ → Course → List RequestMoment
seen_answer wide Idle = []
seen_answer wide (Waiting sent) = []
seen_answer wide (Served sent reply) = record { act = Answers; wide = wide; sent = sent } ∷ []

-- what is seen of a moment of such a slave: that a request is accepted, or answered. That it takes effect nobody sees.
abbrev pub seen_then : Truth → SlaveMoment → List RequestMoment
seen_then truth (SlaveAccepts wide sent) = record { act = Accepts; wide = wide; sent = sent } ∷ []
seen_then truth (TakesEffect wide) = []
seen_then truth (SlaveAnswers wide) = seen_answer wide (truth.course wide)

-- the moments that are seen among all of these
abbrev pub seen_in : Truth → List SlaveMoment → List RequestMoment
seen_in truth [] = []
seen_in truth (moment ∷ later) = seen_then truth moment ++ seen_in (truth_after truth moment) later

-- ---- what it replies

-- a request that is answered, with what was expected of the slave as it took effect
abbrev pub answer_given : ℕ → Course → List (Sent × Pattern)
answer_given wide Idle = []
answer_given wide (Waiting sent) = []
answer_given wide (Served sent reply) = (with_source wide sent, record reply { source = wide }) ∷ []

-- the request that a moment answers, with what was expected of the slave as it took effect; none if the moment is
-- another.
abbrev pub given_then : Truth → SlaveMoment → List (Sent × Pattern)
given_then truth (SlaveAccepts wide sent) = []
given_then truth (TakesEffect wide) = []
given_then truth (SlaveAnswers wide) = answer_given wide (truth.course wide)

-- those that are answered among all of these moments, in order
abbrev pub given_in : Truth → List SlaveMoment → List (Sent × Pattern)
given_in truth [] = []
given_in truth (moment ∷ later) = given_then truth moment ++ given_in (truth_after truth moment) later

-- ---- so it is at a port

-- a slave, of which the judge knows no more at reset than what is so, did the port's requests at these moments; what is
-- seen of them is what was seen at the port, and what was captured of each source fits its replies
pub record IsDoneWhenever (plan : Plan) (past : List Sighting) (port : ℕ) (slave : Slave) (all : List SlaveMoment)
    : Type 0 where
  pub reset : IsBelowAtReset (reset_of plan port).kept slave
  pub may_come : MayAllCome (untouched slave) all
  pub seen : seen_in (untouched slave) all ≡ moments plan port past
  pub captured : (wide : ℕ)
      → AreEntries wide (exchanges_at plan port wide past) (entries_of wide (given_in (untouched slave) all))

-- ---- the rules, of such slaves

-- what `KeepsRules` says, but that each slave whose order nobody knows did its requests at such moments
pub record KeepsRulesWhenever (plan : Plan) (past : List Sighting) : Type 0 where
  pub messages : AreMessages plan past
  pub memories : (port : ℕ) → order_at plan port ≢ Any
      → (history : List (Sent × Pattern)) × IsDoneAt plan past port history
  pub any_orders : (port : ℕ) → order_at plan port ≡ Any
      → (slave : Slave) × (all : List SlaveMoment) × IsDoneWhenever plan past port slave all
  pub crossings : plan.layout.links ≡ Both → (wide : ℕ) → MessagesCross plan past wide

-- so it is at each moment
abbrev pub AlwaysKeepsRulesWhenever : Plan → List Sighting → Type 0
AlwaysKeepsRulesWhenever plan past =
    (later earlier : List Sighting) → later ++ earlier ≡ past → KeepsRulesWhenever plan earlier

-- no slave has accepted a request at reset
abbrev pub AreFresh : Plan → Type 0
AreFresh plan = (port : ℕ) → (reset_of plan port).contests ≡ []
