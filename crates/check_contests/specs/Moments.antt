-- The moments of a port, and a slave of which each request takes effect at one of them: after the request is accepted,
-- and before its reply begins. It is this project's own.
use Rattle.std.specs.Prelude.{◌≡◌, ℕ, ◌<◌, if◌then◌else◌, ◌==◌, List, [], ◌∷◌, Option, Some, None, slice_index_or}
use Rattle.tl_types.specs.Request.{Request}
use Rattle.tl_ops.specs.declared.kind.Kind.TheVariants.{ClearRegs}
use Rattle.check_cells.specs.Sent.{Sent}
use Rattle.check_memory.specs.Laws.{IsLawfulAsk}
use Rattle.check_memory.specs.Pattern.{Pattern}
use Rattle.check_memory.specs.declared.slave.Slave.{Slave}
use Rattle.check_memory.specs.declared.slave.Slave.TheVariants.{Memory, Device}
use Rattle.check_contests.specs.Sent.{slave_after_sent, expected_of_sent}

-- a request of a wide source is accepted, it takes effect, or its reply begins
pub data SlaveMoment : Type 0 where
  Accepts : ℕ → Sent → SlaveMoment
  TakesEffect : ℕ → SlaveMoment
  Answers : ℕ → SlaveMoment

-- ---- a slave with the requests that it has accepted

-- the request of a wide source: there is none, it has not taken effect yet, or it has, and this was expected of the slave
-- then
pub data Course : Type 0 where
  Idle : Course
  Waiting : Sent → Course
  Served : Sent → Pattern → Course

-- the request, if there is one
abbrev pub asked_of : Course → Option Request
asked_of Idle = None
asked_of (Waiting sent) = Some sent.ask
asked_of (Served sent reply) = Some sent.ask

-- a slave, and the request of each wide source
pub record Truth : Type 0 where
  pub slave : Slave
  pub course : ℕ → Course

-- a slave before any request
abbrev pub untouched : Slave → Truth
untouched slave = record { slave = slave; course = λ _. Idle }

-- ---- what a moment makes of it

-- the courses, with another one of a wide source
abbrev pub course_with : (ℕ → Course) → ℕ → Course → ℕ → Course
course_with course wide next other = if other == wide then next else course other

-- a request of a wide source is accepted: it has not taken effect yet.
abbrev pub truth_accepting : Truth → ℕ → Sent → Truth
truth_accepting truth wide sent = record truth { course = course_with truth.course wide (Waiting sent) }

-- the request of a wide source takes effect: the slave does it, and what is expected of the slave at that moment is kept
-- as its reply.
abbrev pub truth_serving : Truth → ℕ → Sent → Truth
truth_serving truth wide sent = record {
  slave = slave_after_sent truth.slave sent;
  course = course_with truth.course wide (Served sent (expected_of_sent truth.slave sent));
}

-- the reply to a wide source begins: the source has no request any more.
abbrev pub truth_answering : Truth → ℕ → Truth
truth_answering truth wide = record truth { course = course_with truth.course wide Idle }

-- the request of a wide source takes effect, if it waits
abbrev pub truth_taking : Truth → ℕ → Course → Truth
truth_taking truth wide Idle = truth
truth_taking truth wide (Waiting sent) = truth_serving truth wide sent
truth_taking truth wide (Served sent reply) = truth

-- what one moment leaves of the slave and of the requests of all wide sources.
abbrev pub truth_after : Truth → SlaveMoment → Truth
truth_after truth (Accepts wide sent) = truth_accepting truth wide sent
truth_after truth (TakesEffect wide) = truth_taking truth wide (truth.course wide)
truth_after truth (Answers wide) = truth_answering truth wide

-- ---- which moments may come

-- each byte that is known is below 256
abbrev pub AreBytes : List (Option ℕ) → Type 0
AreBytes cells = (place byte : ℕ) → slice_index_or cells place None ≡ Some byte → byte < 256

-- the same where it matters: at a memory where writing a one clears
abbrev pub AreBytesAt : Slave → List (Option ℕ) → Type 0
AreBytesAt (Memory memory) cells = memory.kind ≡ ClearRegs → AreBytes cells
AreBytesAt Device cells = Unit {0}

-- a request as messages carry it to this slave
pub record IsCarried (slave : Slave) (ask : Request) : Type 0 where
  pub lawful : IsLawfulAsk ask
  pub bytes : AreBytesAt slave ask.bytes

-- there is a request that has not taken effect yet.
abbrev pub IsWaiting : Course → Type 0
IsWaiting Idle = ⊥
IsWaiting (Waiting sent) = Unit {0}
IsWaiting (Served sent reply) = ⊥

-- there is a request that has taken effect.
abbrev pub IsServedCourse : Course → Type 0
IsServedCourse Idle = ⊥
IsServedCourse (Waiting sent) = ⊥
IsServedCourse (Served sent reply) = Unit {0}

-- a wide source has one request at a time, which takes effect once, between its acceptance and its answer
abbrev pub MayCome : Truth → SlaveMoment → Type 0
MayCome truth (Accepts wide sent) = (truth.course wide ≡ Idle) × IsCarried truth.slave sent.ask
MayCome truth (TakesEffect wide) = IsWaiting (truth.course wide)
MayCome truth (Answers wide) = IsServedCourse (truth.course wide)

-- moments that may come one after the other
abbrev pub MayAllCome : Truth → List SlaveMoment → Type 0
MayAllCome truth [] = Unit {0}
MayAllCome truth (moment ∷ moments) = MayCome truth moment × MayAllCome (truth_after truth moment) moments
