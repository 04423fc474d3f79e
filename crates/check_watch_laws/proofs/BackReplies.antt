-- Replies of slaves, and replies that cross, are those that must come: the way back from what lawful beats say of replies.
use Rattle.std.proofs.Common.{◌≡◌, ◌∙◌, ℕ, ◌%◌, ◌^◌, max, true, false, if◌then◌else◌, List, [], ◌∷◌, ◌++◌, zip, take, Option, Some, None, refl, ap, sym, subst, append-nil}
use Rattle.std.specs.Prelude.{◌==◌, ◌&&◌, IsSomeAnd}
use Rattle.check_cells.specs.Sent.{Sent}
use Rattle.check_cells.specs.Pattern.{Pattern, FitsCaptured}
use Rattle.check_beats.specs.State.{ends_reply, reply_of}
use Rattle.check_beats.specs.declared.beat.ReplyHead.{ReplyHead}
use Rattle.check_flight.specs.declared.answer.Answer.{Answer}
use Rattle.check_flight.specs.Crossing.{Crossing, given as given_in, IsSameReply}
use Rattle.check_flight.specs.Crossing.Crossing.{Waiting, Crossed, Given}
use Rattle.check_flight.specs.Flight.{Turn}
use Rattle.check_flight.specs.Flight.Turn.{Asked}
use Rattle.check_watch.specs.declared.beat.Beat.TheVariants.{D}
use Rattle.check_watch.specs.declared.beat.Link.{Link}
use Rattle.check_watch.specs.declared.beat.Link.TheVariants.{Master, Port}
use Rattle.check_watch.specs.Lawful.{IsLawfulGroup}
use Rattle.check_watch.specs.Past.{State, scene_found, scene_of, state}
use Rattle.check_watch.specs.Plan.{Plan, Layout, Sighting, side_of, link_number, wide_of, same_side, bus_of, wider_bus, HasLink, IsGroupLink}
use Rattle.check_watch.specs.Plan.LinkSide.{AtMasters, AtPorts}
use Rattle.check_watch.specs.Scene.{takes_effect, is_given}
use Rattle.check_watch.proofs.InFlight.{reply_at}
use Rattle.check_watch_laws.specs.Crossed.{AskSeen, ReplySeen, AreWatched, reply_beat, replying_at, begun_replies_at, asks, replies, exchanges}
use Rattle.check_watch_laws.specs.Crossings.{answered_from_outside, IsGiven, AreGiven, MessagesCross}
use Rattle.check_watch_laws.specs.Memories.{side_for, port_for, is_for, IsEntry, AreEntries, exchanges_at, entries_of, with_source}
use Rattle.check_watch_laws.specs.Moments.{IsDueAt}
use Rattle.check_watch_laws.proofs.BackTurns.{asks_with_reply, replies_with_reply}
use Rattle.check_watch_laws.proofs.Crossing.{story_at}
use Rattle.check_watch_laws.proofs.Done.{port_own, are_replayed}
use Rattle.check_watch_laws.proofs.Dues.{IsSourced, are_due}
use Rattle.check_watch_laws.proofs.Flights.{pending, InStep, in_step}
use Rattle.check_watch_laws.proofs.Links.{links_are}
use Rattle.check_watch_laws.proofs.Memory.{owed}
use Rattle.check_watch_laws.proofs.Standing.{Story, AllGiven, IsOut, goes_to, is_out, outside_answered}
use Rattle.check_watch_laws.proofs.Taking.{takes}
use Rattle.check_watch_laws.proofs.Telling.{at_port, told_at, seen_more, put_last, sourced_late, goes_there, are_told}
use Rattle.check_watch_laws.proofs.Told.{AreMatched}
use Rattle.check_watch_laws.proofs.Turns.{link_on, own_link, eqb_own, same_side-true}

-- ---- lists

-- the entry of the last exchange is the one after those of the others
last_entry_of : (wide : ℕ) (seen : List (AskSeen × ReplySeen)) (last : AskSeen × ReplySeen)
    (front rest : List (Sent × Pattern)) → AreMatched wide seen front
    → AreEntries wide (seen ++ last ∷ []) (front ++ rest)
    → (entry : Sent × Pattern) × (more : List (Sent × Pattern)) × (rest ≡ entry ∷ more)
    × IsEntry wide last entry
last_entry_of wide [] last [] [] all are = absurd are
last_entry_of wide [] last [] (entry ∷ more) all are = (entry, more, refl, are.0)
last_entry_of wide [] last (e ∷ front) rest all are = absurd all
last_entry_of wide (x ∷ seen) last [] rest all are = absurd all
last_entry_of wide (x ∷ seen) last (e ∷ front) rest all are = last_entry_of wide seen last front rest all.1 are.1

-- a reply that comes to a master was given
not_all_given : (layout : Layout) (wide : ℕ) (seen given : List (AskSeen × ReplySeen)) (last : AskSeen × ReplySeen)
    → AllGiven layout wide seen given → AreGiven layout wide (seen ++ last ∷ []) given → ⊥
not_all_given layout wide [] [] last all are = are
not_all_given layout wide [] (g ∷ given) last all are = all
not_all_given layout wide (x ∷ seen) [] last all are = all
not_all_given layout wide (x ∷ seen) (g ∷ given) last all are = not_all_given layout wide seen given last all.1 are.1

last_given : (layout : Layout) (wide : ℕ) (seen front : List (AskSeen × ReplySeen)) (last one : AskSeen × ReplySeen)
    → AllGiven layout wide seen front → AreGiven layout wide (seen ++ last ∷ []) (front ++ one ∷ [])
    → IsGiven layout wide last one
last_given layout wide [] [] last one all are = are.0
last_given layout wide [] (g ∷ front) last one all are = absurd all
last_given layout wide (x ∷ seen) [] last one all are = absurd all
last_given layout wide (x ∷ seen) (g ∷ front) last one all are =
    last_given layout wide seen front last one all.1 are.1

-- if a reply is not given by a port, the slave answers here
effect_of : (layout : Layout) (link : Link) (port : ℕ) → is_given layout link port ≡ false
    → takes_effect layout link port ≡ true
effect_of layout (Port p) port is = refl
effect_of layout (Master m) port is = ap (λ b. if b then false else true) is

abbrev first_entry : Sent × Pattern → List (Sent × Pattern) → Sent × Pattern
first_entry other [] = other
first_entry other (entry ∷ more) = entry

-- the reply that is owed is the entry
owed_entry : (plan : Plan) (port wide n : ℕ) (link : Link) (ask : Sent) (due : Option Answer)
    (entry : Sent × Pattern) (more : List (Sent × Pattern)) (reply : ReplySeen) → n ≡ link_number link
    → (port_for plan link ask.ask == port) ≡ true
    → owed plan port wide (side_of link) (Asked n ask) due ≡ entry ∷ more → IsSourced (Asked n ask) due
    → IsEntry wide (record { link = link; sent = ask }, reply) entry
    → IsSomeAnd due (λ answer. FitsCaptured answer.reply (reply.reply ask.ask.address))
owed_entry plan port wide n link ask None entry more reply number goes is sourced one = cc
owed_entry plan port wide n link ask (Some answer) entry more reply number goes is sourced one =
    let there : link_on (side_of link) n ≡ link = ap (λ k. link_on (side_of link) k) number ∙ own_link link in
    let own : Sent × Pattern = (with_source wide ask, record answer.reply { source = wide }) in
    let goes_so : (port_for plan (link_on (side_of link) n) ask.ask == port) ≡ true =
    ap (λ l. port_for plan l ask.ask == port) there ∙ goes in
    let lists : own ∷ [] ≡ entry ∷ more = sym (ap (λ b. if b then own ∷ [] else []) goes_so) ∙ is in
    let same : own ≡ entry = ap (first_entry own) lists in
    let this : IsEntry wide (record { link = link; sent = ask }, reply) own =
    subst (λ e. IsEntry wide (record { link = link; sent = ask }, reply) e) (sym same) one in
    subst (λ k. FitsCaptured (record answer.reply { source = k }) (reply.reply ask.ask.address)) (sym sourced) this.fits

-- ---- a reply that ends

module _ (plan : Plan) (past : List Sighting) (watched : AreWatched plan.layout past) (lawful : IsLawfulGroup plan past)
    (link : Link) (known : ℕ) (lanes : List ℕ) (has : HasLink plan.layout link)
    (seen_here : IsGroupLink plan.layout link) (beat : ReplyHead) (ask : Sent)
    (in_flight : ((state plan past).flights (side_of link) (wide_of plan link beat.source)).turn ≡ Asked
    (link_number link) ask)
    (ends : ends_reply (bus_of plan.layout link) (replying_at plan.layout link past) beat ≡ true) where
  abbrev s : State
  s = state plan past

  abbrev own : ℕ
  own = wide_of plan link beat.source

  abbrev turn : Turn
  turn = (s.flights (side_of link) own).turn

  abbrev found : ℕ
  found = (scene_found plan s link (D beat)).port

  abbrev due : Option Answer
  due = (scene_of plan s link (D beat)).flight.due

  abbrev bus : ℕ
  bus = bus_of plan.layout link

  abbrev pub ended_now : ReplySeen
  ended_now = record {
    link = link;
    reply = λ address. reply_of bus (replying_at plan.layout link past) address beat (known % 2 ^ bus) (take bus lanes);
    beats = begun_replies_at plan.layout link past ++ reply_beat bus beat known lanes ∷ [];
  }

  abbrev last : AskSeen × ReplySeen
  last = (record { link = link; sent = ask }, ended_now)

  step : InStep (side_of link) turn (asks plan (side_of link) own past) (replies plan (side_of link) own past)
  step = in_step plan past lawful (side_of link) own

  asked_is : asks plan (side_of link) own past ≡ step.done ++ record { link = link; sent = ask } ∷ []
  asked_is = step.asks_are ∙ ap (λ t. step.done ++ pending (side_of link) t) in_flight
      ∙ ap (λ (l : Link). step.done ++ record { link = l; sent = ask } ∷ []) (own_link link)

  asks_are : asks plan (side_of link) own (reply_at link known lanes beat ∷ past) ≡ asks plan (side_of link) own past
      ++ []
  asks_are = asks_with_reply plan past link known lanes beat ∙ sym (append-nil (asks plan (side_of link) own past))

  replies_are : replies plan (side_of link) own (reply_at link known lanes beat ∷ past)
      ≡ replies plan (side_of link) own past ++ ended_now ∷ []
  replies_are = replies_with_reply plan past link known lanes beat
      ∙ ap (λ b. replies plan (side_of link) own past ++ (if b then ended_now ∷ [] else [])) ends

  -- the reply of a slave
  pub memory_back : is_given plan.layout link found ≡ false
      → ((port : ℕ) → (history : List (Sent × Pattern))
      × IsDueAt plan (reply_at link known lanes beat ∷ past) port history)
      → IsSomeAnd due (λ answer. FitsCaptured answer.reply (ended_now.reply ask.ask.address))
  memory_back given memories =
      let linked = links_are plan past in
      let steps = in_step plan past lawful in
      let dues = are_due plan past watched lawful in
      let replayed = are_replayed plan past watched lawful in
      let effect : takes_effect plan.layout link found ≡ true = effect_of plan.layout link found given in
      let same : same_side (side_of link) (side_for plan.layout found) ≡ true =
      sym (takes plan.layout link found has seen_here (port_own plan link turn (D beat))) ∙ effect in
      let side : side_of link ≡ side_for plan.layout found =
      same_side-true (side_of link) (side_for plan.layout found) same in
      let goes : port_for plan link ask.ask ≡ found =
      goes_there plan s past linked steps dues replayed link known lanes has seen_here beat ask in_flight in
      let goes_so : (port_for plan link ask.ask == found) ≡ true = ap (λ n. n == found) goes ∙ eqb_own found in
      let for_it : is_for plan found last.0 ≡ true = ap (λ b. b && (port_for plan link ask.ask == found)) same ∙ goes_so in
      let was = told_at plan s past found own own (side_for plan.layout found) (side_of link) side refl
      (are_told plan past watched lawful found own) in
      let told = memories found in
      let history_is : entries_of own told.0 ≡ was.front ++ owed plan found own (side_of link) turn due =
      ap (λ l. entries_of own l) told.1.dues
      ∙ put_last plan s past linked steps dues replayed link known lanes has seen_here beat ask in_flight found was.front
      was.entries_are in
      let seen_is : exchanges_at plan found own (reply_at link known lanes beat ∷ past) ≡ at_port plan found
      (asks plan (side_of link) own past) (replies plan (side_of link) own past) ++ last ∷ [] =
      ap (λ sd. at_port plan found (asks plan sd own (reply_at link known lanes beat ∷ past))
      (replies plan sd own (reply_at link known lanes beat ∷ past))) (sym side)
      ∙ ap (λ l. at_port plan found l (replies plan (side_of link) own (reply_at link known lanes beat ∷ past))) asks_are
      ∙ ap (λ l. at_port plan found (asks plan (side_of link) own past ++ []) l) replies_are
      ∙ sym (seen_more plan found (asks plan (side_of link) own past) step.done
      (replies plan (side_of link) own past) last.0 last.1 asked_is step.counted)
      ∙ ap (λ b. at_port plan found (asks plan (side_of link) own past) (replies plan (side_of link) own past)
      ++ (if b then last ∷ [] else [])) for_it in
      let entries : AreEntries own (at_port plan found (asks plan (side_of link) own past)
      (replies plan (side_of link) own past) ++ last ∷ [])
      (was.front ++ owed plan found own (side_of link) turn due) =
      subst (λ l. AreEntries own l (was.front ++ owed plan found own (side_of link) turn due)) seen_is
      (subst (λ l. AreEntries own (exchanges_at plan found own (reply_at link known lanes beat ∷ past)) l) history_is
      (told.1.captured own)) in
      let entry = last_entry_of own (at_port plan found (asks plan (side_of link) own past)
      (replies plan (side_of link) own past)) last was.front
      (owed plan found own (side_of link) turn due) was.matched entries in
      owed_entry plan found own (link_number link) link ask due entry.0 entry.1 ended_now refl goes_so
      (ap (λ t. owed plan found own (side_of link) t due) (sym in_flight) ∙ entry.2)
      (sourced_late plan s past linked steps dues replayed link known lanes has seen_here beat ask in_flight) entry.3

-- the reply that a port gave
module _ (plan : Plan) (past : List Sighting) (lawful : IsLawfulGroup plan past) (m known : ℕ) (lanes : List ℕ)
    (beat : ReplyHead) (ask : Sent)
    (in_flight : ((state plan past).flights AtMasters (plan.wide m beat.source)).turn ≡ Asked m ask)
    (ends : ends_reply (bus_of plan.layout (Master m)) (replying_at plan.layout (Master m) past) beat ≡ true)
    (out : is_out plan (plan.wide m beat.source) m ask ≡ true)
    (crossing : MessagesCross plan (reply_at (Master m) known lanes beat ∷ past) (plan.wide m beat.source)) where
  abbrev wide : ℕ
  wide = plan.wide m beat.source

  abbrev story : Story
  story = story_at plan wide past

  abbrev width : ℕ
  width = bus_of plan.layout (Master m)

  abbrev got_now : ReplySeen
  got_now = record {
    link = Master m;
    reply = λ address. reply_of width (replying_at plan.layout (Master m) past) address beat (known % 2 ^ width)
        (take width lanes);
    beats = begun_replies_at plan.layout (Master m) past ++ reply_beat width beat known lanes ∷ [];
  }

  abbrev one : AskSeen × ReplySeen
  one = (record { link = Master m; sent = ask }, got_now)

  abbrev before : List (AskSeen × ReplySeen)
  before = answered_from_outside plan (exchanges plan AtMasters wide past)

  given_now : AreGiven plan.layout wide (before ++ one ∷ []) (exchanges plan AtPorts wide past)
  given_now =
      let step = in_step plan past lawful AtMasters wide in
      let asked_so : asks plan AtMasters wide past ≡ step.done ++ one.0 ∷ [] =
      step.asks_are ∙ ap (λ t. step.done ++ pending AtMasters t) in_flight in
      let seen : answered_from_outside plan (exchanges plan AtMasters wide
      (reply_at (Master m) known lanes beat ∷ past)) ≡ before ++ one ∷ [] =
      ap (λ l. answered_from_outside plan
      (zip l (replies plan AtMasters wide (reply_at (Master m) known lanes beat ∷ past))))
      (asks_with_reply plan past (Master m) known lanes beat ∙ sym (append-nil (asks plan AtMasters wide past)))
      ∙ ap (λ l. answered_from_outside plan (zip (asks plan AtMasters wide past ++ []) l))
      (replies_with_reply plan past (Master m) known lanes beat
      ∙ ap (λ b. replies plan AtMasters wide past ++ (if b then got_now ∷ [] else [])) ends)
      ∙ outside_answered plan wide story step.done one.0 one.1 asked_so step.counted
      ∙ ap (λ b. before ++ (if b then one ∷ [] else [])) out in
      subst (λ l. AreGiven plan.layout wide l (exchanges plan AtPorts wide past)) seen crossing.given

  -- the port that the request went to
  abbrev port : ℕ
  port = goes_to plan wide m ask

  pub given_back : (far : Crossing) (there : Turn) → IsOut plan wide story true m port ask far there
      → IsSomeAnd (given_in far)
      (λ answer. IsSameReply (wider_bus plan.layout (Master m) port) answer.reply (got_now.reply ask.ask.address))
  given_back Waiting there stands =
      absurd (not_all_given plan.layout wide before (exchanges plan AtPorts wide past) one stands.given given_now)
  given_back Crossed there stands =
      absurd (not_all_given plan.layout wide before (exchanges plan AtPorts wide past) one stands.given given_now)
  given_back (Given answer) there stands =
      let this : IsGiven plan.layout wide one stands.last =
      last_given plan.layout wide before stands.front one stands.last stands.given
      (subst (λ l. AreGiven plan.layout wide (before ++ one ∷ []) l) stands.split given_now) in
      subst (λ (r : Pattern). IsSameReply (wider_bus plan.layout (Master m) port) r (got_now.reply ask.ask.address))
      (sym stands.reply_is)
      (subst (λ (l : Link). IsSameReply (max (bus_of plan.layout (Master m)) (bus_of plan.layout l))
      (stands.last.1.reply stands.last.0.sent.ask.address) (got_now.reply ask.ask.address)) stands.link_is this.reply)
