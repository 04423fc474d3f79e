-- Requests that cross were sent: the way back from what lawful beats say of crossings.
use Rattle.std.proofs.Common.{◌≡◌, ◌∙◌, ℕ, Bool, true, false, if◌then◌else◌, List, [], ◌∷◌, ◌++◌, take, refl, ap, subst}
use Rattle.check_cells.specs.Sent.{Sent}
use Rattle.check_beats.specs.State.{ends_ask, ask_of}
use Rattle.check_beats.specs.declared.beat.AskHead.{AskHead}
use Rattle.check_flight.specs.Crossing.{Crossing, IsSameSent}
use Rattle.check_flight.specs.Crossing.Crossing.{Waiting, Crossed, Given}
use Rattle.check_flight.specs.Flight.{Turn}
use Rattle.check_flight.specs.Flight.Turn.{Idle, Asking, Asked}
use Rattle.check_watch.specs.declared.beat.Link.TheVariants.{Master, Port}
use Rattle.check_watch.specs.Allowed.{IsAskedAs}
use Rattle.check_watch.specs.Plan.{Layout, Plan, Sighting, bus_of, wider_bus}
use Rattle.check_watch.specs.Plan.LinkSide.{AtMasters, AtPorts}
use Rattle.check_watch.proofs.InFlight.{ask_at}
use Rattle.check_watch_laws.specs.Crossed.{AskSeen, asking_at, asks}
use Rattle.check_watch_laws.specs.Crossings.{sent_out, IsSeenAcross, AreSeenAcross, MessagesCross}
use Rattle.check_watch_laws.proofs.BackTurns.{asks_with_ask}
use Rattle.check_watch_laws.proofs.Crossing.{story_at}
use Rattle.check_watch_laws.proofs.Standing.{AllSeen, IsOut, goes_to, is_out, Stands}

-- a port took no more than was sent
too_few : (layout : Layout) (wide : ℕ) (sent taken : List AskSeen) (last : AskSeen) → AllSeen layout wide sent taken
    → AreSeenAcross layout wide sent (taken ++ last ∷ []) → ⊥
too_few layout wide [] [] last all are = are
too_few layout wide [] (t ∷ taken) last all are = all
too_few layout wide (x ∷ sent) [] last all are = all
too_few layout wide (x ∷ sent) (t ∷ taken) last all are = too_few layout wide sent taken last all.1 are.1

-- the last that a port took is the last that was sent
last_seen : (layout : Layout) (wide : ℕ) (sent taken : List AskSeen) (one last : AskSeen) → AllSeen layout wide sent taken
    → AreSeenAcross layout wide (sent ++ one ∷ []) (taken ++ last ∷ []) → IsSeenAcross layout wide one last
last_seen layout wide [] [] one last all are = are.0
last_seen layout wide [] (t ∷ taken) one last all are = absurd all
last_seen layout wide (x ∷ sent) [] one last all are = absurd all
last_seen layout wide (x ∷ sent) (t ∷ taken) one last all are =
    last_seen layout wide sent taken one last all.1 are.1

module _ (plan : Plan) (past : List Sighting) (p known : ℕ) (lanes : List ℕ) (beat : AskHead)
    (ends : ends_ask (bus_of plan.layout (Port p)) (asking_at plan.layout (Port p) past) beat ≡ true)
    (crossing : MessagesCross plan (ask_at (Port p) known lanes beat ∷ past) beat.source) where
  abbrev wide : ℕ
  wide = beat.source

  abbrev ask : Sent
  ask = ask_of (bus_of plan.layout (Port p)) (asking_at plan.layout (Port p) past) beat
      (take (bus_of plan.layout (Port p)) lanes)

  abbrev taken : List AskSeen
  taken = asks plan AtPorts wide past

  abbrev last : AskSeen
  last = record { link = Port p; sent = ask }

  abbrev sent_before : List AskSeen
  sent_before = sent_out plan (asks plan AtMasters wide past)

  -- what the master sent is what ports took, with the request of the beat
  are_seen : AreSeenAcross plan.layout wide sent_before (taken ++ last ∷ [])
  are_seen = subst (λ l. AreSeenAcross plan.layout wide sent_before l)
      (asks_with_ask plan past (Port p) known lanes beat ∙ ap (λ b. taken ++ (if b then last ∷ [] else [])) ends)
      crossing.requests

  none : AllSeen plan.layout wide sent_before taken → ⊥
  none same = too_few plan.layout wide sent_before taken last same are_seen

  pub sent_back : (turn : Turn) (far : Crossing) (there : Turn)
      → Stands plan wide (story_at plan wide past) turn far there
      → IsAskedAs plan.layout p turn ask × (far ≡ Waiting)
  sent_back Idle far there stands = absurd (none stands.same)
  sent_back (Asking n) far there stands = absurd (none stands.same)
  sent_back (Asked n sent) far there stands = go (is_out plan wide n sent) far stands
    where
      go : (out : Bool) (far : Crossing)
          → IsOut plan wide (story_at plan wide past) out n (goes_to plan wide n sent) sent far there
          → IsSameSent (wider_bus plan.layout (Master n) p) sent ask × (far ≡ Waiting)
      go false far stands = absurd (none stands.same)
      go true Crossed stands = absurd (none stands.same)
      go true (Given answer) stands = absurd (none stands.same)
      go true Waiting stands =
          let one : AskSeen = record { link = Master n; sent = sent } in
          let seen : IsSeenAcross plan.layout wide one last =
          last_seen plan.layout wide stands.front taken one last stands.same
          (subst (λ l. AreSeenAcross plan.layout wide l (taken ++ last ∷ [])) stands.split are_seen) in
          (seen.same, refl)
