-- What is in flight as it is counted is what the judge has in flight, after lawful rows.
use Rattle.std.proofs.Common.{◌≡◌, ◌∙◌, ◌⊎◌, inl, inr, ⊎_elim, ℕ, Bool, true, false, if◌then◌else◌, List, [], ◌∷◌, Some, refl, ap, sym, subst}
use Rattle.std.specs.Prelude.{◌==◌, ◌&&◌}
use Rattle.check_beats.specs.State.{AskBegun}
use Rattle.check_beats.specs.declared.beat.AskHead.{AskHead}
use Rattle.check_beats.specs.declared.beat.ReplyHead.{ReplyHead}
use Rattle.check_flight.specs.Flight.{Flight}
use Rattle.check_watch.specs.Lawful as group_lawful
use Rattle.check_watch.specs.Lawful.{IsAllowed, IsAllowedBeat}
use Rattle.check_watch.specs.Past.{State, scene_in_group, scene_of, state, state_after}
use Rattle.check_watch.specs.Plan.{Layout, Plan, LinkSide, Sighting, is_apart, is_link, link_number, same_side, seen_at, side_of, source_of, wide_of}
use Rattle.check_watch.specs.Plan.LinkSide.{AtMasters, AtPorts}
use Rattle.check_watch.specs.Scene.{ended_by, seen, under_after}
use Rattle.check_watch.specs.declared.beat.Beat.{Beat}
use Rattle.check_watch.specs.declared.beat.Beat.TheVariants.{A, D}
use Rattle.check_watch.specs.declared.beat.Link.{Link}
use Rattle.check_watch.specs.declared.beat.Link.TheVariants.{Master, Port}
use Rattle.check_watch.specs.declared.seen.Ended.{Ended}
use Rattle.check_watch.proofs.InFlight.{other_stays}
use Rattle.check_watch_laws.proofs.Turns.{AsksFly, asks_fly}
use Rattle.check_watch.specs.declared.links.Links.{Links}
use Rattle.check_watch.specs.declared.links.Links.TheVariants.{Both, Masters, Ports, Each}
use Rattle.check_sides.specs.Groups.{is_alone, is_port_alone, past_at, plan_at, port_past, port_plan, shared_past}
use Rattle.check_sides.specs.Lawful.{IsLawful}
use Rattle.check_sides.specs.Plan.{bus_of}
use Rattle.check_sides.proofs.Fresh.{shared_none}
use Rattle.check_sides.proofs.Grouping.{in_group, shared_more, shared_same}
use Rattle.check_rows.specs.Row.{SeenRow, beats_of}
use Rattle.check_coverage.specs.Flights.{InFlight, end_of, flights_after, in_flight, is_counted, ends_an_ask, ends_a_reply, wide_at}
use Rattle.check_coverage.proofs.Lawful.{counted_together}
use Rattle.check_text_laws.proofs.Finding.{found}
use Rattle.check_text_laws.proofs.Kept.{AreKept, IsKeptAs, IsWholeAs, ask_kept, ask_whole, reply_answers, reply_kept, reply_whole}

-- ---- which links are counted

-- the side of the links that are counted
abbrev pub counted_side : Links → LinkSide
counted_side Both = AtMasters
counted_side Masters = AtMasters
counted_side Ports = AtPorts
counted_side Each = AtMasters

pub counted_there : (links : Links) (link : Link) → is_counted links link ≡ true → side_of link ≡ counted_side links
counted_there Both (Master m) is = refl
counted_there Both (Port p) is = absurd (cc)
counted_there Masters (Master m) is = refl
counted_there Masters (Port p) is = absurd (cc)
counted_there Ports (Master m) is = absurd (cc)
counted_there Ports (Port p) is = refl
counted_there Each (Master m) is = refl
counted_there Each (Port p) is = absurd (cc)

-- what is not counted is judged by itself, or is of the other side
uncounted : (layout : Layout) (link : Link) → is_counted layout.links link ≡ false
    → (is_alone layout link ≡ true)
    ⊎ ((is_alone layout link ≡ false) × (same_side (side_of link) (counted_side layout.links) ≡ false))
uncounted layout (Master m) is = inr (refl, go layout.links is)
  where
    go : (links : Links) → is_counted links (Master m) ≡ false → same_side AtMasters (counted_side links) ≡ false
    go Both is = absurd (cc)
    go Masters is = absurd (cc)
    go Ports is = refl
    go Each is = absurd (cc)
uncounted layout (Port p) is = go layout.links (is_apart layout p) is
  where
    go : (links : Links) (apart : Bool) → is_counted links (Port p) ≡ false
        → (is_port_alone links apart ≡ true)
        ⊎ ((is_port_alone links apart ≡ false) × (same_side AtPorts (counted_side links) ≡ false))
    go Both true is = inl refl
    go Both false is = inr (refl, refl)
    go Masters apart is = inr (refl, refl)
    go Ports apart is = absurd (cc)
    go Each apart is = inl refl

-- ---- the links that are judged together

shared_next : (plan : Plan) (past : List Sighting) (x : Sighting) (b : Bool) → is_alone plan.layout x.link ≡ b
    → group_lawful.IsLawfulGroup plan (shared_past plan.layout past)
    → IsAllowed (plan_at plan x.link) (scene_in_group (plan_at plan x.link) (past_at plan.layout x.link past) x) x
    → group_lawful.IsLawfulGroup plan (shared_past plan.layout (x ∷ past))
shared_next plan past x false is before next =
    subst (λ l. group_lawful.IsLawfulGroup plan l)
    (sym (shared_more x.beat x.known x.lanes past plan.layout x.link is))
    (before, in_group plan past x.link (λ p l. IsAllowed p (scene_in_group p l x) x) false is next)
shared_next plan past x true is before next =
    subst (λ l. group_lawful.IsLawfulGroup plan l)
    (sym (shared_same x.beat x.known x.lanes past plan.layout x.link is)) before

-- their beats are lawful
pub shared_part : (plan : Plan) (past : List Sighting) → IsLawful plan past
    → group_lawful.IsLawfulGroup plan (shared_past plan.layout past)
shared_part plan [] lawful =
    subst (λ l. group_lawful.IsLawfulGroup plan l) (sym (shared_none plan.layout)) tt
shared_part plan (x ∷ past) lawful =
    shared_next plan past x (is_alone plan.layout x.link) refl (shared_part plan past lawful.0) lawful.1

-- ---- a beat of the other side

module _ (plan : Plan) (s : State) (side : LinkSide) (flights : List InFlight) (kept : AreKept plan s side flights) (x : Sighting)
    (apart : same_side (side_of x.link) side ≡ false) where
  abbrev then_state : State
  then_state = state_after plan s x

  other_turns : (wide : ℕ) → IsKeptAs plan wide (then_state.flights side wide).turn (found wide flights)
  other_turns wide =
      subst (λ (f : Flight). IsKeptAs plan wide f.turn (found wide flights))
      (sym (other_stays plan s x side wide
      (ap (λ b. b && (wide_of plan x.link (source_of x.beat) == wide)) apart))) (kept.turns wide)

  other_asking : (at : Link) (b : AskBegun) → side_of at ≡ side
      → (then_state.links (side_of at) (link_number at)).asking ≡ Some b
      → (s.links (side_of at) (link_number at)).asking ≡ Some b
  other_asking at b same = go (is_link x.link (side_of at) (link_number at)) not_here
    where
      not_here : is_link x.link (side_of at) (link_number at) ≡ false
      not_here =
          ap (λ sd. same_side (side_of x.link) sd && (link_number x.link == link_number at)) same
          ∙ ap (λ b. b && (link_number x.link == link_number at)) apart

      go : (here : Bool) → here ≡ false
          → (if here then under_after (scene_of plan s x.link x.beat).under x.beat x.known x.lanes
          else s.links (side_of at) (link_number at)).asking ≡ Some b
          → (s.links (side_of at) (link_number at)).asking ≡ Some b
      go true is so = absurd (cc)
      go false is so = so

  pub other_kept : AreKept plan (state_after plan s x) side flights
  other_kept = record {
    turns = other_turns;
    begins = λ at b same is. kept.begins at b same (other_asking at b same is);
  }

-- ---- a row more

not_reply : (ask : AskHead) (reply : ReplyHead) → A ask ≡ D reply → ⊥
not_reply ask reply same = subst IsAsk same tt
  where
    IsAsk : Beat → Type 0
    IsAsk (A head) = Unit {0}
    IsAsk (D head) = ⊥

module _ (plan : Plan) (before : List SeenRow) (row : SeenRow) where
  abbrev p : Plan
  p = plan

  abbrev past : List Sighting
  past = shared_past plan.layout (beats_of before)

  abbrev x : Sighting
  x = row.sighting

  abbrev own : ℕ
  own = wide_at plan x

  module _ (together : is_alone plan.layout row.sighting.link ≡ false) where
    -- what its beat ends, by the plan of the links that are judged together
    pub end_together : end_of plan before row
        ≡ ended_by (group_lawful.seen_in_group plan (shared_past plan.layout (beats_of before)) row.sighting)
    end_together =
        ap (λ b. ended_by (group_lawful.seen_in_group (if b then port_plan plan else plan)
        (if b then port_past (link_number x.link) (beats_of before) else past) x)) together

    pub allowed_together : IsLawful plan (beats_of (row ∷ before))
        → IsAllowed plan (scene_in_group plan (shared_past plan.layout (beats_of before)) row.sighting)
        row.sighting
    allowed_together lawful =
        in_group plan (beats_of before) x.link (λ q l. IsAllowed q (scene_in_group q l x) x) false together lawful.1

  module _ (lawful : IsLawful plan (beats_of before)) (flights : List InFlight)
      (kept : AreKept plan (state plan (shared_past plan.layout (beats_of before)))
      (side_of row.sighting.link) flights) where
    abbrev s : State
    s = state p past

    busy : AsksFly p s
    busy = asks_fly p past (shared_part plan (beats_of before) lawful)

    by_beat : (beat : Beat) → IsAllowedBeat p (scene_of p s x.link beat) (seen_at x.link beat x.known x.lanes) beat
        → (end : Ended) → end ≡ ended_by (seen p.layout x.link (scene_of p s x.link beat) beat x.known x.lanes)
        → AreKept plan (state_after p s (seen_at x.link beat x.known x.lanes)) (side_of x.link)
        (flights_after plan (bus_of plan.layout x.link) (wide_of p x.link (source_of beat)) flights beat end)
    by_beat (A beat) allowed end is =
        ask_kept plan s busy flights x.link x.known x.lanes kept (bus_of plan.layout x.link) beat allowed end
        (ap ends_an_ask is ∙ ask_whole (s.links (side_of x.link) (link_number x.link)) beat x.lanes)
    by_beat (D beat) allowed end is =
        reply_kept plan s busy flights x.link x.known x.lanes kept (bus_of plan.layout x.link) beat allowed end
        (ap ends_a_reply is ∙ reply_whole p.layout x.link (scene_of p s x.link (D beat)) beat x.known x.lanes allowed)

    pub row_kept : (together : is_alone plan.layout row.sighting.link ≡ false)
        → IsLawful plan (beats_of (row ∷ before))
        → AreKept plan (state plan (row.sighting ∷ shared_past plan.layout (beats_of before)))
        (side_of row.sighting.link)
        (flights_after plan (bus_of plan.layout row.sighting.link) (wide_at plan row.sighting) flights row.sighting.beat
        (end_of plan before row))
    row_kept together all =
        by_beat x.beat (allowed_together together all) (end_of plan before row) (end_together together)

    -- a reply that ends answers a request that is kept
    pub answered_kept : (together : is_alone plan.layout row.sighting.link ≡ false)
        → IsLawful plan (beats_of (row ∷ before)) → (beat : ReplyHead) → row.sighting.beat ≡ D beat
        → (f : InFlight) × (found (wide_at plan row.sighting) flights ≡ Some f)
    answered_kept together all beat is = go x.beat (allowed_together together all) is
      where
        go : (b : Beat) → IsAllowedBeat p (scene_of p s x.link b) (seen_at x.link b x.known x.lanes) b → b ≡ D beat
            → (f : InFlight) × (found (wide_of p x.link (source_of b)) flights ≡ Some f)
        go (A ask) allowed so = absurd (not_reply ask beat so)
        go (D reply) allowed so =
            let asked = reply_answers plan s busy flights x.link x.known x.lanes kept (bus_of plan.layout x.link)
            reply allowed in
            let own = wide_of p x.link reply.source in
            let whole : IsWholeAs plan own asked.0.ask (found own flights) =
            subst (λ t. IsKeptAs plan own t (found own flights)) asked.1
            (kept.turns own) in
            (whole.flight, whole.is)

  module _ (lawful : IsLawful plan (beats_of (row ∷ before))) where
    abbrev side : LinkSide
    side = counted_side plan.layout.links

    abbrev all : List Sighting
    all = shared_past plan.layout (beats_of (row ∷ before))

    counted_row : is_counted plan.layout.links x.link ≡ true
        → AreKept plan (state p past) side (in_flight plan before)
        → AreKept plan (state p all) side
        (flights_after plan (bus_of plan.layout x.link) own (in_flight plan before) x.beat (end_of plan before row))
    counted_row is kept =
        let together = counted_together plan.layout x.link is in
        let there : side_of x.link ≡ side = counted_there plan.layout.links x.link is in
        let next = row_kept lawful.0 (in_flight plan before)
        (subst (λ sd. AreKept plan (state p past) sd (in_flight plan before)) (sym there) kept) together lawful in
        subst (λ l. AreKept plan (state p l) side
        (flights_after plan (bus_of plan.layout x.link) own (in_flight plan before) x.beat (end_of plan before row)))
        (sym (shared_more x.beat x.known x.lanes (beats_of before) plan.layout x.link together))
        (subst (λ sd. AreKept plan (state p (x ∷ past)) sd
        (flights_after plan (bus_of plan.layout x.link) own (in_flight plan before) x.beat (end_of plan before row)))
        there next)

    uncounted_row : is_counted plan.layout.links x.link ≡ false
        → AreKept plan (state p past) side (in_flight plan before) → AreKept plan (state p all) side (in_flight plan before)
    uncounted_row is kept = ⊎_elim
        (λ (alone : is_alone plan.layout x.link ≡ true).
        subst (λ l. AreKept plan (state p l) side (in_flight plan before))
        (sym (shared_same x.beat x.known x.lanes (beats_of before) plan.layout x.link alone)) kept)
        (λ (both : (is_alone plan.layout x.link ≡ false) × (same_side (side_of x.link) side ≡ false)).
        subst (λ l. AreKept plan (state p l) side (in_flight plan before))
        (sym (shared_more x.beat x.known x.lanes (beats_of before) plan.layout x.link both.0))
        (other_kept plan (state p past) side (in_flight plan before) kept x both.1))
        (uncounted plan.layout x.link is)

    pub one_row : AreKept plan (state plan (shared_past plan.layout (beats_of before)))
        (counted_side plan.layout.links) (in_flight plan before)
        → AreKept plan (state plan (shared_past plan.layout (beats_of (row ∷ before))))
        (counted_side plan.layout.links) (in_flight plan (row ∷ before))
    one_row kept = go (is_counted plan.layout.links x.link) refl
      where
        go : (counted : Bool) → is_counted plan.layout.links x.link ≡ counted
            → AreKept plan (state p all) side
            (if counted
            then flights_after plan (bus_of plan.layout x.link) own (in_flight plan before) x.beat (end_of plan before row)
            else in_flight plan before)
        go true is = counted_row is kept
        go false is = uncounted_row is kept

pub are_kept : (plan : Plan) (rows : List SeenRow) → IsLawful plan (beats_of rows)
    → AreKept plan (state plan (shared_past plan.layout (beats_of rows)))
    (counted_side plan.layout.links) (in_flight plan rows)
are_kept plan [] lawful =
    subst (λ l. AreKept plan (state plan l) (counted_side plan.layout.links) [])
    (sym (shared_none plan.layout))
    (record { turns = λ wide. refl; begins = λ link b side is. absurd (cc) })
are_kept plan (row ∷ before) lawful = one_row plan before row lawful (are_kept plan before lawful.0)
