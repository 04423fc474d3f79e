-- A request that is in flight and has not ended is under way at its link.
use Rattle.std.proofs.Common.{◌≡◌, ◌∙◌, ℕ, ◌+◌, Bool, true, false, if◌then◌else◌, List, [], ◌∷◌, ◌++◌, Option, Some, None, unwrap_or, refl, ap, sym, subst}
use Rattle.check_cells.specs.Sent.{Sent}
use Rattle.check_beats.specs.Form.{Continues, SameFields}
use Rattle.check_beats.specs.Message.{ask_part, spoiled_ask_part}
use Rattle.check_beats.specs.State.{Under, AskBegun, first_ask, ends_ask, ends_reply, ask_of, asked_beats, asked_bytes, asked_spoiled}
use Rattle.check_beats.specs.declared.beat.AskHead.{AskHead}
use Rattle.check_beats.specs.declared.beat.ReplyHead.{ReplyHead}
use Rattle.check_flight.specs.Flight.{Turn, idle}
use Rattle.check_flight.specs.Flight.Turn.{Idle, Asking, Asked}
use Rattle.check_watch.specs.declared.beat.Beat.{Beat}
use Rattle.check_watch.specs.declared.beat.Beat.TheVariants.{A, D}
use Rattle.check_watch.specs.declared.beat.Link.{Link}
use Rattle.check_watch.specs.Allowed.{IsAllowedAsk, IsAllowedReply}
use Rattle.check_watch.specs.Lawful.{IsLawfulGroup, IsAllowed}
use Rattle.check_watch.specs.Past.{State, scene_of, state, state_after}
use Rattle.check_watch.specs.Plan.{Plan, Sighting, LinkSide, side_of, link_number, wide_of, is_link, is_of}
use Rattle.check_watch.specs.Scene.{turn_by, flight_after, under_after}
use Rattle.check_watch.proofs.InFlight.{ask_at, reply_at, of_is, of_own, idle_or_asking}
use Rattle.check_watch_laws.proofs.Dues.{side_on}
use Rattle.check_watch_laws.proofs.Links.{same_link}
use Rattle.check_watch_laws.proofs.Turns.{link_on, own_link, own_is, asking_same, asked_at, true_or_false}

-- a request of this wide source is under way at the link
abbrev pub IsAsking : Plan → State → ℕ → Link → Type 0
IsAsking plan s wide link =
    (begun : AskBegun) × ((s.links (side_of link) (link_number link)).asking ≡ Some begun)
    × (wide_of plan link begun.first.source ≡ wide)

abbrev pub AskingHasBegun : Plan → State → Type 0
AskingHasBegun plan s =
    (side : LinkSide) (wide n : ℕ) → (s.flights side wide).turn ≡ Asking n → IsAsking plan s wide (link_on side n)

asked_or_asking : (m n : ℕ) (ask : Sent) → Asked m ask ≡ Asking n → ⊥
asked_or_asking m n ask is = subst Is is tt
  where
    Is : Turn → Type 0
    Is Idle = ⊥
    Is (Asking k) = ⊥
    Is (Asked k r) = Unit {0}

first_source : (kept : Option AskBegun) (beat : AskHead) → Continues SameFields (first_ask kept) beat
    → (unwrap_or (first_ask kept) beat).source ≡ beat.source
first_source None beat same = refl
first_source (Some b) beat same = sym (same b.first refl).source

module _ (plan : Plan) (s : State) (before : AskingHasBegun plan s) (link : Link) (known : ℕ) (lanes : List ℕ) where
  ask_begun : (beat : AskHead) → IsAllowedAsk plan.layout link (scene_of plan s link (A beat)) beat known lanes
      → AskingHasBegun plan (state_after plan s (ask_at link known lanes beat))
  ask_begun beat allowed side wide n = go (is_of plan (ask_at link known lanes beat) side wide) refl
    where
      later : State
      later = state_after plan s (ask_at link known lanes beat)

      under : Under
      under = s.links (side_of link) (link_number link)

      own_asking : ends_ask under.bus under.asking beat ≡ false → IsAsking plan later (wide_of plan link beat.source) link
      own_asking goes_on =
          let begun : AskBegun = record {
            first = unwrap_or (first_ask under.asking) beat;
            beats = asked_beats under.asking + 1;
            bytes = asked_bytes under.asking ++ ask_part under.bus beat lanes;
            spoiled = asked_spoiled under.asking ++ spoiled_ask_part under.bus beat;
          } in (
            begun,
            ap (λ (h : Bool). (if h then under_after under (A beat) known lanes else under).asking) (own_is link)
                ∙ ap (λ (b : Bool). if b then None else Some begun) goes_on,
            ap (λ k. wide_of plan link k) (first_source under.asking beat allowed.fits.same),
          )

      own : (ends : Bool) → ends_ask under.bus under.asking beat ≡ ends
          → turn_by (link_number link) (if ends then Some (ask_of under.bus under.asking beat lanes) else None) ≡ Asking n
          → IsAsking plan later (wide_of plan link beat.source) (link_on (side_of link) n)
      own true e is = absurd (asked_or_asking (link_number link) n (ask_of under.bus under.asking beat lanes) is)
      own false e is = subst (λ l. IsAsking plan later (wide_of plan link beat.source) l)
          (sym (own_link link) ∙ ap (λ k. link_on (side_of link) k) (asking_same (link_number link) n is))
          (own_asking e)

      go : (of : Bool) → is_of plan (ask_at link known lanes beat) side wide ≡ of
          → (if of then flight_after plan.layout link (scene_of plan s link (A beat))
          (A beat) lanes else s.flights side wide).turn ≡ Asking n
          → IsAsking plan (state_after plan s (ask_at link known lanes beat)) wide (link_on side n)
      go true of is =
          let both = of_is plan (ask_at link known lanes beat) side wide of in
          let P : LinkSide → ℕ → Type 0 = λ sd w. IsAsking plan later w (link_on sd n) in
          subst (λ sd. P sd wide) both.0 (subst (λ w. P (side_of link) w) both.1
          (own (ends_ask under.bus under.asking beat) refl is))
      go false of is = other (is_link link (side_of (link_on side n)) (link_number (link_on side n))) refl
        where
          was : IsAsking plan s wide (link_on side n)
          was = before side wide n is

          other : (here : Bool) → is_link link (side_of (link_on side n)) (link_number (link_on side n)) ≡ here
              → (begun : AskBegun)
              × ((if here then under_after (s.links (side_of link) (link_number link)) (A beat) known lanes
              else s.links (side_of (link_on side n)) (link_number (link_on side n))).asking ≡ Some begun)
              × (wide_of plan (link_on side n) begun.first.source ≡ wide)
          other false here = was
          other true here =
              let at : link ≡ link_on side n = same_link link (link_on side n) here in
              let under_way : (s.links (side_of link) (link_number link)).asking ≡ Some was.0 =
              ap (λ (l : Link). (s.links (side_of l) (link_number l)).asking) at ∙ was.1 in
              let source : beat.source ≡ was.0.first.source =
              (allowed.fits.same was.0.first (ap first_ask under_way)).source in
              let wide_is : wide_of plan link beat.source ≡ wide =
              ap (λ k. wide_of plan link k) source ∙ ap (λ l. wide_of plan l was.0.first.source) at ∙ was.2 in
              let side_is : side_of link ≡ side = ap (λ l. side_of l) at ∙ side_on side n in
              let mine : is_of plan (ask_at link known lanes beat) side wide ≡ true =
              subst (λ sd. is_of plan (ask_at link known lanes beat) sd wide ≡ true) side_is
              (subst (λ w. is_of plan (ask_at link known lanes beat) (side_of link) w ≡ true) wide_is
              (of_own plan (ask_at link known lanes beat))) in
              absurd (true_or_false (is_of plan (ask_at link known lanes beat) side wide) mine of)

  reply_begun : (beat : ReplyHead) → IsAllowedReply plan.layout link (scene_of plan s link (D beat)) beat known lanes
      → AskingHasBegun plan (state_after plan s (reply_at link known lanes beat))
  reply_begun beat allowed side wide n = go (is_of plan (reply_at link known lanes beat) side wide) refl
    where
      own : (ends : Bool) → (if ends then idle else (scene_of plan s link (D beat)).flight).turn ≡ Asking n → ⊥
      own true is = idle_or_asking n is
      own false is =
          let found = asked_at (link_number link)
          (s.flights (side_of link) (wide_of plan link beat.source)).turn _ allowed.answers in
          asked_or_asking (link_number link) n found.0 (sym found.1 ∙ is)

      go : (of : Bool) → is_of plan (reply_at link known lanes beat) side wide ≡ of
          → (if of then flight_after plan.layout link (scene_of plan s link (D beat))
          (D beat) lanes else s.flights side wide).turn ≡ Asking n
          → IsAsking plan (state_after plan s (reply_at link known lanes beat)) wide (link_on side n)
      go true of is =
          let under = s.links (side_of link) (link_number link) in
          absurd (own (ends_reply under.bus under.replying beat) is)
      go false of is = other (is_link link (side_of (link_on side n)) (link_number (link_on side n))) refl
        where
          was : IsAsking plan s wide (link_on side n)
          was = before side wide n is

          other : (here : Bool) → is_link link (side_of (link_on side n)) (link_number (link_on side n)) ≡ here
              → (begun : AskBegun)
              × ((if here then under_after (s.links (side_of link) (link_number link)) (D beat) known lanes
              else s.links (side_of (link_on side n)) (link_number (link_on side n))).asking ≡ Some begun)
              × (wide_of plan (link_on side n) begun.first.source ≡ wide)
          other false here = was
          other true here = (
            was.0,
            ap (λ (l : Link). (s.links (side_of l) (link_number l)).asking) (same_link link (link_on side n) here) ∙ was.1,
            was.2,
          )

pub asking_begun : (plan : Plan) (past : List Sighting) → IsLawfulGroup plan past → AskingHasBegun plan (state plan past)
asking_begun plan [] lawful = λ side wide n is. absurd (idle_or_asking n is)
asking_begun plan (x ∷ past) lawful = go (asking_begun plan past lawful.0) x.beat lawful.1
  where
    go : AskingHasBegun plan (state plan past) → (beat : Beat)
        → IsAllowed plan (scene_of plan (state plan past) x.link beat) (record x { beat = beat })
        → AskingHasBegun plan (state_after plan (state plan past) (record x { beat = beat }))
    go before (A beat) allowed = ask_begun plan (state plan past) before x.link x.known x.lanes beat allowed
    go before (D beat) allowed = reply_begun plan (state plan past) before x.link x.known x.lanes beat allowed
