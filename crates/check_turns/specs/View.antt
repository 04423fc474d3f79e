-- What a judge keeps of the beats so far, with the order of replies. It is this project's own.
use Rattle.std.specs.Prelude.{◌≡◌, ℕ, ◌&&◌, ◌==◌, if◌then◌else◌, Bool, true, false, List, Option, Some, None, is_some, slice_get, unwrap_or}
use Rattle.check_watch.specs.declared.beat.Beat.{Beat}
use Rattle.check_watch.specs.declared.beat.Link.{Link}
use Rattle.check_watch.specs.declared.beat.Link.TheVariants.{Master, Port}
use Rattle.check_watch.specs.Plan.{IsPlan, Layout, Plan, Sighting, is_fifo, source_of}
pub use Rattle.check_sides.specs.Groups.{are_apart, is_port_alone, is_some_alone}
use Rattle.check_sides.specs.View as sides
use Rattle.check_turns.specs.Lawful.{IsLawfulInOrder}
use Rattle.check_turns.specs.Turns.{AreInTurn, answered_at, asked_at, count_if, is_reply, is_request, next, number_of}

-- ---- one link

-- how many requests and replies have begun at a link, and the number of each source's last request
pub record LinkTurnsView : Type 0 where
  pub asked : ℕ
  pub answered : ℕ
  pub numbers : List ℕ

-- the number of a source's last request
abbrev pub number_in : List ℕ → ℕ → ℕ
number_in numbers source = unwrap_or (slice_get numbers source) 0

-- no message has begun
pub record IsFresh (turns : LinkTurnsView) : Type 0 where
  pub asked : turns.asked ≡ 0
  pub answered : turns.answered ≡ 0
  pub numbers : (source : ℕ) → number_in turns.numbers source ≡ 0

-- the same after a message that begins with this beat
pub record IsAfter (old new : LinkTurnsView) (beat : Beat) : Type 0 where
  pub asked : new.asked ≡ count_if (is_request beat) old.asked
  pub answered : new.answered ≡ count_if (is_reply beat) old.answered
  pub numbers : (source : ℕ) → number_in new.numbers source
      ≡ (if is_request beat && (source_of beat == source) then next old.asked else number_in old.numbers source)

-- this is what has begun at a link
pub record IsTurns (plan : Plan) (past : List Sighting) (link : Link) (turns : LinkTurnsView) : Type 0 where
  pub asked : turns.asked ≡ asked_at plan past link
  pub answered : turns.answered ≡ answered_at plan past link
  pub numbers : (source : ℕ) → number_in turns.numbers source ≡ number_of plan past link source

-- ---- all links

-- of each master's link and of each port's, if its replies come in order
pub record TurnsView : Type 0 where
  pub masters : List (Option LinkTurnsView)
  pub ports : List (Option LinkTurnsView)

-- what is kept of a link of one side, by its number
abbrev pub turns_in : List (Option LinkTurnsView) → ℕ → Option LinkTurnsView
turns_in table number = unwrap_or (slice_get table number) None

-- what is kept of a link
abbrev pub turns_at : TurnsView → Link → Option LinkTurnsView
turns_at turns (Master m) = turns_in turns.masters m
turns_at turns (Port p) = turns_in turns.ports p

-- a reply to this source is the one whose turn it is, if replies come in order
abbrev pub IsTurnOf : Option LinkTurnsView → ℕ → Type 0
IsTurnOf None source = Unit {0}
IsTurnOf (Some turns) source = number_in turns.numbers source ≡ next turns.answered

-- no message has begun at a link whose replies come in order, or not
abbrev pub IsFreshBy : Bool → Option LinkTurnsView → Type 0
IsFreshBy true (Some turns) = IsFresh turns
IsFreshBy true None = ⊥
IsFreshBy false (Some turns) = ⊥
IsFreshBy false None = Unit {0}

-- a message begins with this beat at a link, which is this one or another
abbrev pub IsNotedBy : Bool → Beat → Option LinkTurnsView → Option LinkTurnsView → Type 0
IsNotedBy true beat (Some old) (Some new) = IsAfter old new beat
IsNotedBy true beat (Some old) None = ⊥
IsNotedBy true beat None (Some new) = ⊥
IsNotedBy true beat None None = Unit {0}
IsNotedBy false beat old new = new ≡ old

-- this is kept of the order of replies
pub record KeepsTurns (plan : Plan) (past : List Sighting) (turns : TurnsView) : Type 0 where
  pub lawful : AreInTurn plan past
  pub there : (link : Link) → is_some (turns_at turns link) ≡ is_fifo plan.layout link
  pub kept : (link : Link) (one : LinkTurnsView) → turns_at turns link ≡ Some one → IsTurns plan past link one

-- ---- the judge

-- what is kept of beats, and of the order of replies
pub record OrderedView : Type 0 where
  pub layout : Layout
  pub beats : sides.View
  pub turns : TurnsView

-- the judge is one for this plan
pub record Suits (plan : Plan) (view : OrderedView) : Type 0 where
  pub lawful : IsPlan plan
  pub layout : view.layout ≡ plan.layout

-- the past is lawful, and this is kept of it
pub record KeepsOrdered (plan : Plan) (past : List Sighting) (view : OrderedView) : Type 0 where
  pub suits : Suits plan view
  pub lawful : IsLawfulInOrder plan past
  pub beats : sides.Keeps plan past view.beats
  pub turns : KeepsTurns plan past view.turns
