-- What a lawful beat does to the requests in flight.
use Rattle.std.proofs.Common.{◌≡◌, ◌∙◌, ℕ, Bool, true, false, if◌then◌else◌, List, ◌∷◌, Option, Some, None, refl, ap, sym, subst}
use Rattle.std.specs.Prelude.{◌↔◌}
use Rattle.tl_types.specs.Request.{Request}
use Rattle.check_cells.specs.Sent.{Sent}
use Rattle.tl_map.specs.Owner.{IsWideSource}
use Rattle.check_beats.specs.Form.{IsFirstReplyFormFault}
use Rattle.check_beats.specs.State.{AskBegun, first_ask, first_reply, ends_reply}
use Rattle.check_beats.specs.declared.beat.AskHead.{AskHead}
use Rattle.check_beats.specs.declared.beat.ReplyHead.{ReplyHead}
use Rattle.check_beats.specs.declared.fault.FormFault.{FormFault}
use Rattle.check_flight.specs.Flight.{Turn, Flight, idle}
use Rattle.check_flight.specs.Flight.Turn.{Idle, Asking, Asked}
use Rattle.check_watch.specs.declared.beat.Link.{Link}
use Rattle.check_watch.specs.declared.beat.Link.TheVariants.{Master, Port}
use Rattle.check_watch.specs.declared.fault.Reason.TheVariants.{Form}
use Rattle.check_watch.specs.declared.pending.Change.TheVariants.{Begins, Ends, Nothing}
use Rattle.check_watch.specs.declared.pending.Origin.{Origin}
use Rattle.check_watch.specs.Plan.{Layout, Plan, Sighting, HasSource, IsWideAt, LinkSide, side_of, link_number, source_of, wide_of, is_of}
use Rattle.check_watch.specs.Scene.{ask_by, turn_by}
use Rattle.check_watch.specs.Past.{scene_in_group, state}
use Rattle.check_watch.specs.Allowed.{OfAsked}
use Rattle.check_watch.specs.Lawful.{IsLawfulGroup}
use Rattle.check_watch.specs.Pending.{IsInFlightInGroup, IsOriginAt, OthersStay, IsGroupChange}
use Rattle.check_watch.specs.View.{GroupView, SuitsGroup, KeepsGroup, under_in}
use Rattle.check_watch.proofs.InFlight.{ask_at, reply_at, of_is, of_own, idle_or_asking, idle_or_asked, other_stays, own_after, under_way_flies}
use Rattle.check_watch.proofs.Judging.{wide_is}
use Rattle.check_watch.proofs.Replying.{no_reply_reason}

-- the wide source of a link's source is some master's
pub wide_owned : (layout : Layout) (link : Link) (source wide : ℕ) → IsWideAt layout link source wide
    → (master : ℕ) × (own : ℕ) × IsWideSource layout.owners master own wide
wide_owned layout (Master m) source wide at = (m, source, at)
wide_owned layout (Port p) source wide at = (at.1.0, at.1.1.0, rw at.0 at.1.1.1)

-- what is under way at a link is what a judge keeps of it
pub under_is : (plan : Plan) (past : List Sighting) (view : GroupView) (link : Link) → KeepsGroup plan past view
    → under_in view link ≡ (state plan past).links (side_of link) (link_number link)
under_is plan past view link keeps = keeps.state.links (side_of link) (link_number link)

-- ---- what stays

same_turn : (turn other : Turn) → turn ≡ other → ((turn ≡ Idle → ⊥) ↔ (other ≡ Idle → ⊥))
same_turn turn other is = ((λ busy free. busy (is ∙ free)), λ busy free. busy (sym is ∙ free))

-- what is in flight of other sources stays
stays : (plan : Plan) (past : List Sighting) (x : Sighting) (side : LinkSide) (wide : ℕ) → is_of plan x side wide ≡ false
    → IsInFlightInGroup plan (x ∷ past) side wide ↔ IsInFlightInGroup plan past side wide
stays plan past x side wide other =
    same_turn _ _ (ap (λ (f : Flight). f.turn) (other_stays plan (state plan past) x side wide other))

pub others_stay : (plan : Plan) (past : List Sighting) (x : Sighting) (wide : ℕ)
    → wide_of plan x.link (source_of x.beat) ≡ wide → OthersStay (IsInFlightInGroup plan past) (IsInFlightInGroup plan (x ∷ past)) x wide
others_stay plan past x wide own side other none = go (is_of plan x side other) refl
  where
    go : (of : Bool) → is_of plan x side other ≡ of
        → IsInFlightInGroup plan (x ∷ past) side other ↔ IsInFlightInGroup plan past side other
    go true is = let both = of_is plan x side other is in absurd (none (both.0, sym own ∙ both.1))
    go false is = stays plan past x side other is

-- ---- a beat of a request

asking_or_asked : (n : ℕ) (sent : Option Sent) → turn_by n sent ≡ Idle → ⊥
asking_or_asked n None is = idle_or_asking n (sym is)
asking_or_asked n (Some ask) is = idle_or_asked n ask (sym is)

module _ (plan : Plan) (past : List Sighting) (link : Link) (known : ℕ) (lanes : List ℕ) (beat : AskHead)
    (lawful : IsLawfulGroup plan (ask_at link known lanes beat ∷ past)) where
  -- its request is in flight then
  ask_flies : (side : LinkSide) (wide : ℕ) → is_of plan (ask_at link known lanes beat) side wide ≡ true
      → IsInFlightInGroup plan (ask_at link known lanes beat ∷ past) side wide
  ask_flies side wide own free =
      asking_or_asked (link_number link) (ask_by (scene_in_group plan past (ask_at link known lanes beat)).under beat lanes)
      (sym (ap (λ (f : Flight). f.turn) (own_after plan (state plan past) (ask_at link known lanes beat) side wide own)) ∙ free)

  pub ask_goes_on : (((state plan past).links (side_of link) (link_number link)).asking ≡ None → ⊥)
      → IsGroupChange plan past (ask_at link known lanes beat) Nothing
  ask_goes_on under_way side wide = go (is_of plan (ask_at link known lanes beat) side wide) refl
    where
      busy : (begun : Option AskBegun) → ((state plan past).links (side_of link) (link_number link)).asking ≡ begun
          → IsInFlightInGroup plan past (side_of link) (wide_of plan link beat.source)
      busy None is free = under_way is
      busy (Some begun) is free =
          let source : beat.source ≡ begun.first.source =
          (lawful.1.fits.same begun.first (ap first_ask is)).source in
          idle_or_asking (link_number link) (sym free
          ∙ ap (λ n. ((state plan past).flights (side_of link) (wide_of plan link n)).turn) source
          ∙ (under_way_flies plan past lawful.0).0 link begun is)

      go : (of : Bool) → is_of plan (ask_at link known lanes beat) side wide ≡ of
          → IsInFlightInGroup plan (ask_at link known lanes beat ∷ past) side wide ↔ IsInFlightInGroup plan past side wide
      go true own =
          let both = of_is plan (ask_at link known lanes beat) side wide own in (
            (λ _. rw (← both.0, ← both.1)
                (busy ((state plan past).links (side_of link) (link_number link)).asking refl)),
            λ _. ask_flies side wide own,
          )
      go false other = stays plan past (ask_at link known lanes beat) side wide other

  pub ask_begins : (view : GroupView) (origin : Origin) → SuitsGroup plan view
      → ((state plan past).links (side_of link) (link_number link)).asking ≡ None
      → IsOriginAt view.layout link beat.source origin
      → IsGroupChange plan past (ask_at link known lanes beat) (Begins origin)
  ask_begins view origin suits begins at =
      let own : wide_of plan link beat.source ≡ origin.wide =
      sym (wide_is plan view link beat.source origin.wide suits at.wide) in
      record {
        ask = beat;
        is = refl;
        own = rw (← suits.layout) at.own;
        free = λ busy. busy (ap (λ w. ((state plan past).flights (side_of link) w).turn) (sym own)
            ∙ lawful.1.free begins);
        begun = subst (λ w. IsInFlightInGroup plan (ask_at link known lanes beat ∷ past) (side_of link) w) own
            (ask_flies (side_of link) (wide_of plan link beat.source) (of_own plan (ask_at link known lanes beat)));
        others = others_stay plan past (ask_at link known lanes beat) origin.wide own;
      }

  pub ask_has_source : (view : GroupView) → SuitsGroup plan view → (HasSource view.layout link beat.source → ⊥) → ⊥
  ask_has_source view suits none =
      none (subst (λ (l : Layout). HasSource l link beat.source) (sym suits.layout) lawful.1.source)

-- ---- a beat of a reply

-- what a reply answers is in flight
answered_flies : (n : ℕ) (turn : Turn) (P : Request → Type 0) → OfAsked n turn P → turn ≡ Idle → ⊥
answered_flies n Idle P answers is = answers
answered_flies n (Asking k) P answers is = answers
answered_flies n (Asked k ask) P answers is = idle_or_asked k ask (sym is)

module _ (plan : Plan) (past : List Sighting) (link : Link) (known : ℕ) (lanes : List ℕ) (beat : ReplyHead)
    (lawful : IsLawfulGroup plan (reply_at link known lanes beat ∷ past)) where
  pub reply_goes_on : ends_reply ((state plan past).links (side_of link) (link_number link)).bus
      ((state plan past).links (side_of link) (link_number link)).replying beat ≡ false
      → IsGroupChange plan past (reply_at link known lanes beat) Nothing
  reply_goes_on goes_on side wide = go (is_of plan (reply_at link known lanes beat) side wide) refl
    where
      go : (of : Bool) → is_of plan (reply_at link known lanes beat) side wide ≡ of
          → IsInFlightInGroup plan (reply_at link known lanes beat ∷ past) side wide ↔ IsInFlightInGroup plan past side wide
      go true own =
          let both = of_is plan (reply_at link known lanes beat) side wide own in
          same_turn _ _ (ap (λ (f : Flight). f.turn)
          (own_after plan (state plan past) (reply_at link known lanes beat) side wide own)
          ∙ ap (λ (b : Bool). (if b then idle else (scene_in_group plan past (reply_at link known lanes beat)).flight).turn) goes_on
          ∙ ap (λ s. ((state plan past).flights s (wide_of plan link beat.source)).turn) both.0
          ∙ ap (λ w. ((state plan past).flights side w).turn) both.1)
      go false other = stays plan past (reply_at link known lanes beat) side wide other

  pub reply_ends : (view : GroupView) (wide : ℕ) → SuitsGroup plan view
      → ends_reply ((state plan past).links (side_of link) (link_number link)).bus
      ((state plan past).links (side_of link) (link_number link)).replying beat ≡ true
      → IsWideAt view.layout link beat.source wide → IsGroupChange plan past (reply_at link known lanes beat) (Ends wide)
  reply_ends view wide suits ends at =
      let own : wide_of plan link beat.source ≡ wide = sym (wide_is plan view link beat.source wide suits at) in
      record {
        last = ends;
        busy = λ free. answered_flies (link_number link) (scene_in_group plan past (reply_at link known lanes beat)).flight.turn _
            lawful.1.answers (ap (λ w. ((state plan past).flights (side_of link) w).turn) own ∙ free);
        ended = λ busy. busy (ap (λ w. ((state plan (reply_at link known lanes beat ∷ past)).flights (side_of link) w).turn)
            (sym own)
            ∙ ap (λ (f : Flight). f.turn) (own_after plan (state plan past) (reply_at link known lanes beat) (side_of link)
            (wide_of plan link beat.source) (of_own plan (reply_at link known lanes beat)))
            ∙ ap (λ (b : Bool). (if b then idle else (scene_in_group plan past (reply_at link known lanes beat)).flight).turn) ends);
        others = others_stay plan past (reply_at link known lanes beat) wide own;
      }

  pub reply_has_source : (view : GroupView) → SuitsGroup plan view → (HasSource view.layout link beat.source → ⊥) → ⊥
  reply_has_source view suits none =
      none (subst (λ (l : Layout). HasSource l link beat.source) (sym suits.layout) lawful.1.source)

  pub reply_fits : (fault : FormFault)
      → IsFirstReplyFormFault plan.layout.rules (first_reply ((state plan past).links (side_of link) (link_number link)).replying) beat fault → ⊥
  reply_fits fault first =
      no_reply_reason plan.layout link (scene_in_group plan past (reply_at link known lanes beat)) beat known lanes lawful.1 (Form fault)
      first.applies
