-- What the calls of the arena ask and promise. All of it is this project's own, but for two rules of the TileLink
-- specification: a source has one request out at a time (the chapter on channels), and a reply is the memory's (the
-- chapter "TL-UL and TL-UH operations").
use Rattle.std.specs.Prelude.{◌≡◌, ◌≢◌, ℕ, List, take}
use Rattle.tl_types.specs.Request.{Request}
use Rattle.tl_types.specs.Response.{Response}
use Rattle.tl_ops.specs.Store as store
use Rattle.tl_ops.specs.History.{replay, asks_of, IsLawfulHistory}
use Rattle.tl_slots.specs.declared.event.Event.{Event}
use Rattle.tl_slots.specs.declared.event.Event.TheVariants.{Accept, Answer, Leave}
use Rattle.tl_rule.specs.declared.view.Held.TheVariants.{Sent}
use Rattle.tl_rule.specs.declared.view.View.TheVariants.{Master, Port}
use Rattle.tl_rule.specs.Events.{IsEventOf}
use Rattle.tl_rule.specs.Views.{Owns, reset_of, Above, gone_hands}
use Rattle.tl_rule.specs.Seen.{IsOfMasters, SeenFit, JustOwn, IsPlaceOf, at_port, sent_at}
use Rattle.tl_rule.specs.Moves.{IsLawfulDesk, OwnsAll}
use Rattle.tl_arena.specs.Views.{MasterView, PortView, TicketView, ServedView, hand_at, with_collected, entry_of, hands_of, desk_of}

-- the source is of no request that the seat has sent and not collected
abbrev pub IsIdleSource : MasterView → ℕ → Type 0
IsIdleSource v source = (i p known : ℕ) (ask : Request) → hand_at v i ≡ Sent ask p known → source ≢ ask.source

-- what is so of every port's seat: no slot and no source is served twice, its list is true of its memory, and what it
-- has served and serves are requests of masters alone
abbrev pub IsLawfulPort : PortView → Type 0
IsLawfulPort u = IsLawfulDesk (desk_of u)

-- the port's memory now, which is what the requests of its list leave of its reset
abbrev pub memory_of : PortView → store.Store
memory_of u = replay (reset_of u.arena.about u.number) (asks_of u.list)

-- The reply to what was posted is collected. In one lawful history of the port's reset, of requests of masters alone,
-- it stands after all that had been collected there when it was posted, and of the master's own requests that history
-- has just those that it made
pub record IsCollected (v : MasterView) (t : TicketView) (s : ServedView) (w : MasterView) : Type 0 where
  pub slot : s.slot ≡ t.slot
  pub ask : s.ask ≡ t.ask
  pub port : s.port ≡ t.port
  pub seat : w ≡ with_collected v s.slot (entry_of s)
  -- its place in the port's list is above all that the master had collected there when the request was posted
  pub above : Above v.got t.known s.port s.index
  -- nothing was collected at that place before
  pub fresh : IsPlaceOf (at_port s.port v.got) s.index → ⊥
  pub history : List (Request × Response)
  pub lawful : IsLawfulHistory (reset_of v.arena.about s.port) history
  -- no request from elsewhere can have changed what was read
  pub masters : IsOfMasters v.arena.about history
  -- in the history the request and the reply stand at that place, after all that the master had collected there when
  -- it posted
  pub seen : SeenFit history s.index s.ask s.reply (at_port s.port (take t.known v.got))
  -- and of the master's own requests it has just those that it made
  pub own : JustOwn history (Owns v.arena.about v.number) (at_port s.port w.got) (sent_at s.port w.hand)

-- for each port one lawful history of its reset, of requests of masters alone, has all that the master collected there,
-- and no other request of its own
abbrev pub OwnsHistories : MasterView → Type 0
OwnsHistories v = (p : ℕ) → OwnsAll (hands_of v) p

-- ---- one step of the arena is one event of the core

-- the step that took a master's seat from v to w is this event
abbrev pub IsMasterStep : Event → MasterView → MasterView → Type 0
IsMasterStep event v w = IsEventOf v.arena.about event (Master (hands_of v)) (Master (hands_of w))

-- the last step of a master's seat is that the master leaves
abbrev pub IsLeaveStep : MasterView → Type 0
IsLeaveStep v = IsEventOf v.arena.about (Leave v.number) (Master (hands_of v)) (Master (gone_hands (hands_of v)))

-- the step that took a port's seat from u to v is this event
abbrev pub IsPortStep : Event → PortView → PortView → Type 0
IsPortStep event u v = IsEventOf u.arena.about event (Port (desk_of u)) (Port (desk_of v))

-- the step is that the port accepts the request, which is its owner's, from its slot
pub record IsAcceptStep (u : PortView) (f : ℕ × Request) (v : PortView) : Type 0 where
  pub owner : ℕ
  pub owns : Owns u.arena.about owner f.1.source
  pub step : IsPortStep (Accept f.0 owner u.number) u v

-- the step is that the port answers the request, which is its owner's, in its slot
pub record IsAnswerStep (u : PortView) (f : ℕ × Request) (v : PortView) : Type 0 where
  pub owner : ℕ
  pub owns : Owns u.arena.about owner f.1.source
  pub step : IsPortStep (Answer f.0 owner u.number) u v
