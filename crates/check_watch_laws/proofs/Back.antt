-- Beats that keep the rules at each moment are lawful.
use Rattle.std.proofs.Common.{◌≡◌, ◌∙◌, ℕ, ◌%◌, ◌^◌, Bool, true, false, List, [], ◌∷◌, take, refl, ap, sym, subst}
use Rattle.std.specs.Prelude.{◌&&◌}
use Rattle.check_cells.specs.Sent.{Sent}
use Rattle.check_cells.specs.Pattern.{Pattern}
use Rattle.check_beats.specs.Form.{FitsAsk, FitsReply}
use Rattle.check_beats.specs.State.{Under, first_ask, first_reply, ends_ask, ends_reply, ask_of, reply_of}
use Rattle.check_beats.specs.declared.beat.AskHead.{AskHead}
use Rattle.check_beats.specs.declared.beat.ReplyHead.{ReplyHead}
use Rattle.check_flight.specs.Flight.Turn.{Asked}
use Rattle.check_flight.specs.PortSlave.{may_be_unknown}
use Rattle.check_watch.specs.declared.beat.Beat.{Beat}
use Rattle.check_watch.specs.declared.beat.Beat.TheVariants.{A, D}
use Rattle.check_watch.specs.declared.beat.Link.{Link}
use Rattle.check_watch.specs.declared.beat.Link.TheVariants.{Master, Port}
use Rattle.check_watch.specs.declared.links.Links.{Links}
use Rattle.check_watch.specs.declared.links.Links.TheVariants.{Both, Masters, Ports, Each}
use Rattle.check_watch.specs.Allowed.{IsSent, OfAsked, HasKnownLanes, IsAnswer, IsMust, EndsWell, IsAllowedAsk, IsAllowedReply}
use Rattle.check_watch.specs.Lawful.{IsLawfulGroup, IsAllowed}
use Rattle.check_watch.specs.Past.{State, port_in, scene_found, scene_of, state}
use Rattle.check_watch.specs.Plan.{Plan, IsPlan, Layout, Sighting, side_of, link_number, wide_of, are_both, may_cross, route_of, bus_of, wider_bus, HasLink, IsGroupLink}
use Rattle.check_watch.specs.Plan.LinkSide.{AtMasters, AtPorts}
use Rattle.check_watch.specs.Scene.{captured, is_given}
use Rattle.check_watch.proofs.InFlight.{ask_at, reply_at}
use Rattle.check_watch_laws.specs.Crossed.{AreWatched, asking_at, begun_at, replying_at, asks_over}
use Rattle.check_watch_laws.specs.Memories.{port_for, reset_of}
use Rattle.check_watch_laws.specs.Rules.{KeepsRules, AlwaysKeepsRules, IsCompliant, AreCompliant}
use Rattle.check_watch_laws.proofs.BackCross.{sent_back}
use Rattle.check_watch_laws.proofs.BackForm.{ask_fits, reply_fits}
use Rattle.check_watch_laws.proofs.BackReplies.{memory_back, given_back}
use Rattle.check_watch_laws.proofs.BackTurns.{free_back, placed_back, answering_back}
use Rattle.check_watch_laws.proofs.Buses.{bus_is, ask_on_bus, reply_on_bus}
use Rattle.check_watch_laws.proofs.Crossing.{story_at, all_stand}
use Rattle.check_watch_laws.proofs.Done.{reply_goes}
use Rattle.check_watch_laws.proofs.Fitting.{asks_fit}
use Rattle.check_watch_laws.proofs.Flights.{in_step}
use Rattle.check_watch_laws.proofs.Heads.{AskHeads, ask_heads}
use Rattle.check_watch_laws.proofs.Links.{links_are, under_by}
use Rattle.check_watch_laws.proofs.Orders.{due_by_rules}
use Rattle.check_watch_laws.proofs.Replying.{replies_have_heads}
use Rattle.check_watch_laws.proofs.Standing.{IsOut, Stands, goes_to, is_out}
use Rattle.check_watch_laws.proofs.Taking.{next_is}
use Rattle.check_watch_laws.proofs.Whole.{slave_found, unknown_stays}

module _ (plan : Plan) (is_plan : IsPlan plan) (past : List Sighting) (watched : AreWatched plan.layout past)
    (lawful : IsLawfulGroup plan past) (link : Link) (known : ℕ) (lanes : List ℕ) (has : HasLink plan.layout link)
    (seen_here : IsGroupLink plan.layout link) where
  abbrev s : State
  s = state plan past

  under_is : (at : Link) → s.links (side_of at) (link_number at) ≡ under_by plan.layout at past
  under_is = links_are plan past

  heads : (at : Link) → AskHeads (asking_at plan.layout at past) (begun_at plan.layout at past)
  heads at =
      let bus = bus_is plan.layout at in
      ask_heads (bus_of plan.layout at) bus.0 bus.1 (asks_over plan.layout at past) (asks_fit plan past watched lawful at)

  -- ---- a beat of a request

  abbrev ask_now : Link → AskHead → Sent
  ask_now at beat = ask_of (bus_of plan.layout at) (asking_at plan.layout at past) beat
      (take (bus_of plan.layout at) lanes)

  sent_so : (at : Link) (beat : AskHead) → KeepsRules plan (ask_at at known lanes beat ∷ past)
      → ends_ask (bus_of plan.layout at) (asking_at plan.layout at past) beat ≡ true
      → IsSent plan.layout at (scene_of plan s at (A beat)).sent (scene_of plan s at (A beat)).crossing (ask_now at beat)
  sent_so (Master m) beat rules ends = tt
  sent_so (Port p) beat rules ends = λ both.
      let stands = all_stand plan is_plan both past watched lawful beat.source in
      sent_back plan past p known lanes beat ends (rules.crossings both beat.source)
      (s.flights AtMasters beat.source).turn
      (s.crossings beat.source) (s.flights AtPorts beat.source).turn stands

  pub ask_allowed : (beat : AskHead) → KeepsRules plan (ask_at link known lanes beat ∷ past)
      → IsCompliant plan past (ask_at link known lanes beat) (A beat)
      → IsAllowedAsk plan.layout link (scene_of plan s link (A beat)) beat known lanes
  ask_allowed beat rules seen =
      let fits = ask_fits plan.layout past link known lanes beat (heads link) (rules.messages.links link) in
      let scene = scene_of plan s link (A beat) in
      let asking_is = ap (λ (u : Under). u.asking) (under_is link) in
      record {
        fits = subst (λ (u : Under). FitsAsk u.bus (first_ask u.asking) beat) (sym (under_is link)) fits;
        aligned = seen.0;
        marked = seen.1;
        known_lanes = seen.2;
        source = rules.messages.known.0;
        free = λ empty. free_back plan past lawful link known lanes beat heads fits.same
            (rules.messages.sources (side_of link) (wide_of plan link beat.source)) (sym asking_is ∙ empty);
        placed = λ empty. placed_back plan past link known lanes beat (heads link) rules.messages
            (sym asking_is ∙ empty);
        sent = λ ends. subst (λ (r : Sent). IsSent plan.layout link scene.sent scene.crossing r)
            (sym (ap (λ (u : Under). ask_of u.bus u.asking beat lanes) (under_is link)
            ∙ sym (ask_on_bus plan.layout link (asking_at plan.layout link past) beat lanes)))
            (sent_so link beat rules (ap (λ (u : Under). ends_ask u.bus u.asking beat) (sym (under_is link)) ∙ ends));
      }

  -- ---- a beat of a reply

  both_of : (layout : Layout) (m port : ℕ) → is_given layout (Master m) port ≡ true → (layout.links ≡ Both)
      × (may_cross layout port ≡ true)
  both_of layout m port is = go layout.links refl is
    where
      go : (links : Links) → layout.links ≡ links → (are_both links && may_cross layout port) ≡ true
          → (layout.links ≡ Both) × (may_cross layout port ≡ true)
      go Both so given = (so, given)
      go Masters so given = cc
      go Ports so given = cc
      go Each so given = cc

  -- what is captured of the reply that ends, by the beats of its link
  abbrev got_now : Link → ReplyHead → ℕ → Pattern
  got_now at beat address = reply_of (bus_of plan.layout at) (replying_at plan.layout at past) address beat
      (known % 2 ^ bus_of plan.layout at) (take (bus_of plan.layout at) lanes)

  -- the reply that ends is the one that must come
  abbrev IsWell : Link → ReplyHead → Sent → Bool → Type 0
  IsWell at beat ask given =
      let scene = scene_of plan s at (D beat) in
      IsMust given (wider_bus plan.layout at scene.port) scene.crossing scene.flight.due (got_now at beat ask.ask.address)

  -- from a port
  given_so : (at : Link) (beat : ReplyHead) → KeepsRules plan (reply_at at known lanes beat ∷ past) → (ask : Sent)
      → (s.flights (side_of at) (wide_of plan at beat.source)).turn ≡ Asked (link_number at) ask
      → ends_reply (bus_of plan.layout at) (replying_at plan.layout at past) beat ≡ true
      → is_given plan.layout at (scene_found plan s at (D beat)).port ≡ true → IsWell at beat ask true
  given_so (Port p) beat rules ask in_flight ends given = cc
  given_so (Master m) beat rules ask in_flight ends given =
      let wide = plan.wide m beat.source in
      let turn = (s.flights AtMasters wide).turn in
      let both = both_of plan.layout m (port_in plan m turn) given in
      let out : is_out plan wide m ask ≡ true =
      ap (λ t. may_cross plan.layout (port_in plan m t)) (sym in_flight) ∙ both.1 in
      let stands : Stands plan wide (story_at plan wide past) (Asked m ask) (s.crossings wide)
      (s.flights AtPorts wide).turn =
      subst (λ t. Stands plan wide (story_at plan wide past) t (s.crossings wide)
      (s.flights AtPorts wide).turn) in_flight (all_stand plan is_plan both.0 past watched lawful wide) in
      let route_is : port_in plan m turn ≡ route_of plan m ask.ask.address ask.ask.size = ap (λ t. port_in plan m t) in_flight in
      subst (λ p. IsMust true (wider_bus plan.layout (Master m) p) (s.crossings wide)
      (scene_of plan s (Master m) (D beat)).flight.due (got_now (Master m) beat ask.ask.address)) (sym route_is)
      (given_back plan past lawful m known lanes beat ask in_flight ends out (rules.crossings both.0 wide)
      (s.crossings wide) (s.flights AtPorts wide).turn
      (subst (λ b. IsOut plan wide (story_at plan wide past) b m (goes_to plan wide m ask) ask (s.crossings wide)
      (s.flights AtPorts wide).turn) out stands))

  well : (beat : ReplyHead) → KeepsRules plan (reply_at link known lanes beat ∷ past) → (ask : Sent)
      → (s.flights (side_of link) (wide_of plan link beat.source)).turn ≡ Asked (link_number link) ask
      → EndsWell plan.layout link (scene_of plan s link (D beat)) beat known lanes
  well beat rules ask in_flight ends_here =
      let found = (scene_found plan s link (D beat)).port in
      let scene = scene_of plan s link (D beat) in
      let ends : ends_reply (bus_of plan.layout link) (replying_at plan.layout link past) beat ≡ true =
      ap (λ (u : Under). ends_reply u.bus u.replying beat) (sym (under_is link)) ∙ ends_here in
      let got_is : captured (s.links (side_of link) (link_number link))
      (s.flights (side_of link) (wide_of plan link beat.source)).turn beat known lanes ≡ got_now link beat ask.ask.address =
      ap (λ t. captured (s.links (side_of link) (link_number link)) t beat known lanes) in_flight
      ∙ ap (λ (u : Under). captured u (Asked (link_number link) ask) beat known lanes) (under_is link)
      ∙ sym (reply_on_bus plan.layout link (replying_at plan.layout link past) ask.ask.address beat known lanes) in
      subst (λ (r : Pattern). IsMust (is_given plan.layout link found) (wider_bus plan.layout link found)
      scene.crossing scene.flight.due r) (sym got_is)
      (go (is_given plan.layout link found) refl ends)
    where
      go : (given : Bool) → is_given plan.layout link (scene_found plan s link (D beat)).port ≡ given
          → ends_reply (bus_of plan.layout link) (replying_at plan.layout link past) beat ≡ true
          → IsWell link beat ask given
      go true given ends = given_so link beat rules ask in_flight ends given
      go false given ends =
          memory_back plan past watched lawful link known lanes has seen_here beat ask in_flight ends given
          (λ port. due_by_rules plan (reply_at link known lanes beat ∷ past) port rules)

  pub reply_allowed : (beat : ReplyHead) → KeepsRules plan (reply_at link known lanes beat ∷ past)
      → IsCompliant plan past (reply_at link known lanes beat) (D beat)
      → IsAllowedReply plan.layout link (scene_of plan s link (D beat)) beat known lanes
  reply_allowed beat rules seen =
      let wide = wide_of plan link beat.source in
      let turn = (s.flights (side_of link) wide).turn in
      let scene = scene_of plan s link (D beat) in
      let replying = replies_have_heads plan past watched lawful link in
      let fits = reply_fits plan.layout past link known lanes beat replying (rules.messages.links link) in
      let answering = answering_back plan past lawful link known lanes beat replying fits.same
      (rules.messages.sources (side_of link) wide) in
      let next = next_is plan past link wide turn answering.ask
      (in_step plan past lawful (side_of link) wide) answering.in_flight in
      let unknown : may_be_unknown scene.slave ≡ may_be_unknown (reset_of plan (port_for plan link answering.ask.ask)) =
      slave_found plan s link (D beat) ∙ unknown_stays plan past scene.port
      ∙ ap (λ p. may_be_unknown (reset_of plan p)) (sym (reply_goes plan link turn (link_number link) beat answering.ask
      answering.in_flight)) in
      let bus : bus_of plan.layout link ≡ scene.under.bus = sym (ap (λ (u : Under). u.bus) (under_is link)) in
      let lanes_known : HasKnownLanes scene.under.bus (may_be_unknown scene.slave) answering.ask.ask beat known =
      subst (λ n. HasKnownLanes n (may_be_unknown scene.slave) answering.ask.ask beat known) bus
      (subst (λ b. HasKnownLanes (bus_of plan.layout link) b answering.ask.ask beat known) (sym unknown)
      (seen.1 answering.ask next)) in
      record {
        fits = subst (λ (u : Under). FitsReply (first_reply u.replying) beat) (sym (under_is link)) fits;
        marked = seen.0;
        source = rules.messages.known.0;
        answers = subst (λ t. OfAsked (link_number link) t
            (IsAnswer scene.under.bus (may_be_unknown scene.slave) beat known)) (sym answering.in_flight) (
              refl,
              record { size = answering.answers.size; opcode = answering.answers.opcode; lanes = lanes_known },
            );
        ends = well beat rules answering.ask answering.in_flight;
      }

pub rules_make_lawful : (plan : Plan) (past : List Sighting) → IsPlan plan → AreWatched plan.layout past
    → AreCompliant plan past → AlwaysKeepsRules plan past → IsLawfulGroup plan past
rules_make_lawful plan [] is watched seen always = tt
rules_make_lawful plan (x ∷ past) is watched seen always =
    go (rules_make_lawful plan past is watched.1 seen.0
    (λ later earlier so. always (x ∷ later) earlier (ap (λ l. x ∷ l) so))) x.beat (always [] (x ∷ past) refl) seen.1
  where
    go : IsLawfulGroup plan past → (beat : Beat) → KeepsRules plan (record x { beat = beat } ∷ past)
        → IsCompliant plan past (record x { beat = beat }) beat
        → IsLawfulGroup plan past × IsAllowed plan (scene_of plan (state plan past) x.link beat) (record x { beat = beat })
    go lawful (A beat) rules seen = (
      lawful,
      ask_allowed plan is past watched.1 lawful x.link x.known x.lanes watched.0.link watched.0.watched beat
          rules seen,
    )
    go lawful (D beat) rules seen = (
      lawful,
      reply_allowed plan is past watched.1 lawful x.link x.known x.lanes watched.0.link watched.0.watched beat
          rules seen,
    )
