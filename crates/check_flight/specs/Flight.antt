-- What is in flight of a source. It is this project's own.
use Rattle.std.specs.Prelude.{◌≡◌, ℕ, Bool, true, false, Option, Some, None}
use Rattle.tl_types.specs.Request.{Request}
use Rattle.check_cells.specs.Sent.{Sent}
use Rattle.check_flight.specs.declared.answer.Answer.{Answer}
use Rattle.check_flight.specs.declared.flight.Stage.{Stage}
use Rattle.check_flight.specs.declared.flight.Stage.TheVariants.{Nothing, Begun, Ended}

-- what is in flight of a source on one side: nothing, a request that has begun at the link of this number and not
-- ended, or one that has ended there
pub data Turn : Type 0 where
  Idle : Turn
  Asking : ℕ → Turn
  Asked : ℕ → Sent → Turn

-- what is in flight of a source on one side, with what its reply has to fit, if that is known there
pub record Flight : Type 0 where
  pub turn : Turn
  pub due : Option Answer

-- ---- how it is kept, with a request and an answer that say something only where the stage says so

-- what is in flight of a source, as its stage and a request are kept; the request counts only if it has ended.
abbrev pub turn_kept : Stage → Sent → Turn
turn_kept Nothing sent = Idle
turn_kept (Begun number) sent = Asking number
turn_kept (Ended number) sent = Asked number sent

-- what a reply has to fit, as a flag and an answer are kept; the answer counts only if the flag is true.
abbrev pub due_kept : Bool → Answer → Option Answer
due_kept false answer = None
due_kept true answer = Some answer

-- ---- what is in flight

-- nothing
abbrev pub idle : Flight
idle = record { turn = Idle; due = None }

-- a request of the source is in flight at the link
abbrev pub IsInFlight : ℕ → Turn → Type 0
IsInFlight number Idle = ⊥
IsInFlight number (Asking at) = at ≡ number
IsInFlight number (Asked at sent) = at ≡ number

-- a request of the source has ended at the link
abbrev pub IsAskedAt : ℕ → Turn → Type 0
IsAskedAt number Idle = ⊥
IsAskedAt number (Asking at) = ⊥
IsAskedAt number (Asked at sent) = at ≡ number

-- this request has ended at the link, whichever of its beats were marked corrupt
abbrev pub IsEndedAsk : ℕ → Request → Turn → Type 0
IsEndedAsk number ask Idle = ⊥
IsEndedAsk number ask (Asking at) = ⊥
IsEndedAsk number ask (Asked at sent) = (at ≡ number) × (sent.ask ≡ ask)

-- the request in flight that has ended, as it crossed
abbrev pub asked : Turn → Option Sent
asked Idle = None
asked (Asking number) = None
asked (Asked number sent) = Some sent

-- what the reply has to fit, if that is known now
abbrev pub due_by : Option Answer → Option Answer → Option Answer
due_by before None = before
due_by before (Some answer) = Some answer

-- what is in flight, with what its reply has to fit; if that is not told now, it stays as it was.
abbrev pub flight_due : Flight → Option Answer → Flight
flight_due flight answer = record flight { due = due_by flight.due answer }
