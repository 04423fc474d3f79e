-- What lawful beats say of a crossbar both of whose sides are watched: what its ports are asked is what its masters
-- asked, and what its masters are answered is what its ports answered. It is this project's own.
use Rattle.std.specs.Prelude.{◌≡◌, ℕ, ◌≤◌, max, Bool, List, [], ◌∷◌, length, filter}
use Rattle.std.specs.List.{AllByRecursion}
use Rattle.tl_map.specs.Owner.{IsWideSource}
use Rattle.check_flight.specs.Crossing.{IsSameReply, IsSameSent}
use Rattle.check_watch.specs.declared.beat.Link.TheVariants.{Master}
use Rattle.check_watch.specs.Plan.{Plan, Layout, Sighting, may_cross, bus_of}
use Rattle.check_watch.specs.Plan.LinkSide.{AtMasters, AtPorts}
use Rattle.check_watch_laws.specs.Crossed.{AskSeen, ReplySeen, asks, exchanges}
use Rattle.check_watch_laws.specs.Memories.{port_for}

-- the request is one of the master that has this wide source
abbrev pub IsOfMaster : Layout → ℕ → AskSeen → Type 0
IsOfMaster layout wide seen = (master : ℕ) × (seen.link ≡ Master master) × IsWideSource layout.owners master seen.sent.ask.source wide

-- the request goes to a port whose link is judged together with the masters': not to the error port, which has none, and not
-- to one that the system takes out
abbrev pub goes_out : Plan → AskSeen → Bool
goes_out plan seen = may_cross plan.layout (port_for plan seen.link seen.sent.ask)

-- the requests that masters sent to such ports
abbrev pub sent_out : Plan → List AskSeen → List AskSeen
sent_out plan sent = filter (goes_out plan) sent

-- the same with their replies, as masters saw them
abbrev pub answered_from_outside : Plan → List (AskSeen × ReplySeen) → List (AskSeen × ReplySeen)
answered_from_outside plan seen = filter (λ (one : AskSeen × ReplySeen). goes_out plan one.0) seen

-- what a port saw of a request is what its master saw, in cuts of the wider of the two buses; the port saw its wide source
pub record IsSeenAcross (layout : Layout) (wide : ℕ) (at_master at_port : AskSeen) : Type 0 where
  pub same : IsSameSent (max (bus_of layout at_master.link) (bus_of layout at_port.link)) at_master.sent at_port.sent
  pub source : at_port.sent.ask.source ≡ wide

-- one by one; one request more may have been sent, and not crossed yet
abbrev pub AreSeenAcross : Layout → ℕ → List AskSeen → List AskSeen → Type 0
AreSeenAcross layout wide sent [] = length sent ≤ 1
AreSeenAcross layout wide [] (seen ∷ more) = ⊥
AreSeenAcross layout wide (one ∷ sent) (seen ∷ more) = IsSeenAcross layout wide one seen × AreSeenAcross layout wide sent more

-- what a master saw is what a port saw: the request, and the reply as it was captured, in cuts of the wider of the two buses, each
-- the same but for the source; and the master saw its own source in both
pub record IsGiven (layout : Layout) (wide : ℕ) (at_master at_port : AskSeen × ReplySeen) : Type 0 where
  pub ask : IsSeenAcross layout wide at_master.0 at_port.0
  pub reply : IsSameReply (max (bus_of layout at_master.0.link) (bus_of layout at_port.0.link))
      (at_port.1.reply at_port.0.sent.ask.address) (at_master.1.reply at_master.0.sent.ask.address)
  pub source : (at_master.1.reply at_master.0.sent.ask.address).source ≡ at_master.0.sent.ask.source

-- one by one; one reply more may have been given, and not come to its master yet
abbrev pub AreGiven : Layout → ℕ → List (AskSeen × ReplySeen) → List (AskSeen × ReplySeen) → Type 0
AreGiven layout wide [] given = length given ≤ 1
AreGiven layout wide (seen ∷ more) [] = ⊥
AreGiven layout wide (seen ∷ more) (one ∷ given) = IsGiven layout wide seen one × AreGiven layout wide more given

-- the messages of a wide source cross
pub record MessagesCross (plan : Plan) (past : List Sighting) (wide : ℕ) : Type 0 where
  -- masters' requests of it are those of the master that has it
  pub owned : AllByRecursion (IsOfMaster plan.layout wide) (asks plan AtMasters wide past)
  -- ports' requests of it are, in order, those that the master sent out, each once; the last may not have crossed yet
  pub requests : AreSeenAcross plan.layout wide (sent_out plan (asks plan AtMasters wide past)) (asks plan AtPorts wide past)
  -- a reply to a request that went out is the one that the port gave to it
  pub given : AreGiven plan.layout wide (answered_from_outside plan (exchanges plan AtMasters wide past))
      (exchanges plan AtPorts wide past)
