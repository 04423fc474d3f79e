-- Each beat is of a source that the system has, and each request at a port's link is one of the port.
use Rattle.std.proofs.Common.{◌≡◌, ◌∙◌, ℕ, Bool, true, false, if◌then◌else◌, List, [], ◌∷◌, ◌++◌, Option, Some, None, unwrap_or, take, refl, ap, sym, subst, append-nil}
use Rattle.std.specs.List.{AllByRecursion}
use Rattle.check_cells.specs.Sent.{Sent}
use Rattle.check_beats.specs.Form.{SameFields}
use Rattle.check_beats.specs.State.{AskBegun, first_ask, ask_of, ends_ask}
use Rattle.check_beats.specs.declared.beat.AskHead.{AskHead}
use Rattle.check_beats.specs.declared.beat.ReplyHead.{ReplyHead}
use Rattle.check_watch.specs.declared.beat.Beat.{Beat}
use Rattle.check_watch.specs.declared.beat.Beat.TheVariants.{A, D}
use Rattle.check_watch.specs.declared.beat.Link.{Link}
use Rattle.check_watch.specs.declared.beat.Link.TheVariants.{Master, Port}
use Rattle.check_watch.specs.Allowed.{IsPlaced, IsAllowedAsk}
use Rattle.check_watch.specs.Lawful.{IsLawfulGroup, IsAllowed}
use Rattle.check_watch.specs.Past.{State, state, scene_of, state_after}
use Rattle.check_watch.specs.Plan.{Plan, Layout, Sighting, LinkSide, side_of, link_number, source_of, wide_of, is_link, is_of, bus_of, HasSource, RoutesWide}
use Rattle.check_watch.specs.Scene.{under_after}
use Rattle.check_watch.proofs.InFlight.{ask_at, of_is, reply_at}
use Rattle.check_watch_laws.specs.Crossed.{asking_at, ask_ended, asks}
use Rattle.check_watch_laws.specs.Messages.{IsInPlace}
use Rattle.check_watch_laws.proofs.Heads.{first_after}
use Rattle.check_watch_laws.proofs.Links.{same_link}
use Rattle.check_watch_laws.proofs.Replying.{all_more}

pub known_sources : (plan : Plan) (past : List Sighting) → IsLawfulGroup plan past
    → AllByRecursion (λ (x : Sighting). HasSource plan.layout x.link (source_of x.beat)) past
known_sources plan [] lawful = tt
known_sources plan (x ∷ past) lawful = (go x.beat lawful.1, known_sources plan past lawful.0)
  where
    go : (beat : Beat) → IsAllowed plan (scene_of plan (state plan past) x.link beat)
        (record x { beat = beat }) → HasSource plan.layout x.link (source_of beat)
    go (A beat) allowed = allowed.source
    go (D beat) allowed = allowed.source

-- ---- requests under way

abbrev pub AsksPlaced : Plan → State → Type 0
AsksPlaced plan s =
    (link : Link) (begun : AskBegun) → (s.links (side_of link) (link_number link)).asking ≡ Some begun
    → IsPlaced plan.layout link begun.first

pub placed_as : (layout : Layout) (link : Link) (first beat : AskHead) → SameFields first beat
    → IsPlaced layout link first → IsPlaced layout link beat
placed_as layout (Master m) first beat same is = tt
placed_as layout (Port p) first beat same is =
    subst (λ size. RoutesWide layout beat.source beat.address size p) (sym same.size)
    (subst (λ address. RoutesWide layout beat.source address first.size p) (sym same.address)
    (subst (λ source. RoutesWide layout source first.address first.size p) (sym same.source) is))

module _ (plan : Plan) (s : State) (placed : AsksPlaced plan s) (link : Link) (known : ℕ) (lanes : List ℕ) where
  -- each beat of a request is placed, since its first one is
  pub beat_placed : (beat : AskHead) → IsAllowedAsk plan.layout link (scene_of plan s link (A beat)) beat known lanes
      → IsPlaced plan.layout link beat
  beat_placed beat allowed = go (s.links (side_of link) (link_number link)).asking refl
    where
      go : (kept : Option AskBegun) → (s.links (side_of link) (link_number link)).asking ≡ kept
          → IsPlaced plan.layout link beat
      go None is = allowed.placed is
      go (Some b) is = placed_as plan.layout link b.first beat (allowed.fits.same b.first (ap first_ask is))
          (placed link b is)

  ask_placed : (beat : AskHead) → IsAllowedAsk plan.layout link (scene_of plan s link (A beat)) beat known lanes
      → AsksPlaced plan (state_after plan s (ask_at link known lanes beat))
  ask_placed beat allowed at begun = go (is_link link (side_of at) (link_number at)) refl
    where
      first : (kept : Option AskBegun) → (s.links (side_of link) (link_number link)).asking ≡ kept
          → IsPlaced plan.layout link (unwrap_or (first_ask kept) beat)
      first None is = beat_placed beat allowed
      first (Some b) is = placed link b is

      go : (here : Bool) → is_link link (side_of at) (link_number at) ≡ here
          → (if here then under_after (s.links (side_of link) (link_number link)) (A beat) known lanes
          else s.links (side_of at) (link_number at)).asking ≡ Some begun
          → IsPlaced plan.layout at begun.first
      go true here is =
          subst (λ l. IsPlaced plan.layout l begun.first) (same_link link at here)
          (subst (λ h. IsPlaced plan.layout link h)
          (first_after (s.links (side_of link) (link_number link)).bus
          (s.links (side_of link) (link_number link)).asking beat lanes begun is)
          (first (s.links (side_of link) (link_number link)).asking refl))
      go false here is = placed at begun is

  reply_placed : (beat : ReplyHead) → AsksPlaced plan (state_after plan s (reply_at link known lanes beat))
  reply_placed beat at begun = go (is_link link (side_of at) (link_number at)) refl
    where
      go : (here : Bool) → is_link link (side_of at) (link_number at) ≡ here
          → (if here then under_after (s.links (side_of link) (link_number link)) (D beat) known lanes
          else s.links (side_of at) (link_number at)).asking ≡ Some begun
          → IsPlaced plan.layout at begun.first
      go true here is = placed at begun
          (ap (λ (l : Link). (s.links (side_of l) (link_number l)).asking) (sym (same_link link at here)) ∙ is)
      go false here is = placed at begun is

pub asks_placed_so : (plan : Plan) (past : List Sighting) → IsLawfulGroup plan past → AsksPlaced plan (state plan past)
asks_placed_so plan [] lawful = λ link begun is. absurd (cc)
asks_placed_so plan (x ∷ past) lawful = go (asks_placed_so plan past lawful.0) x.beat lawful.1
  where
    go : AsksPlaced plan (state plan past) → (beat : Beat)
        → IsAllowed plan (scene_of plan (state plan past) x.link beat) (record x { beat = beat })
        → AsksPlaced plan (state_after plan (state plan past) (record x { beat = beat }))
    go before (A beat) allowed = ask_placed plan (state plan past) before x.link x.known x.lanes beat allowed
    go before (D beat) allowed = reply_placed plan (state plan past) before x.link x.known x.lanes beat

-- ---- whole requests

in_place : (plan : Plan) (link : Link) (wide : ℕ) (beat : AskHead) (ask : Sent) → wide_of plan link beat.source ≡ wide
    → ask.ask.address ≡ beat.address → ask.ask.size ≡ beat.size → IsPlaced plan.layout link beat
    → IsInPlace plan.layout wide (record { link = link; sent = ask })
in_place plan link wide beat ask own address size placed port is =
    let here : RoutesWide plan.layout beat.source beat.address beat.size port =
    subst (λ l. IsPlaced plan.layout l beat) is placed in
    let source : beat.source ≡ wide = subst (λ l. wide_of plan l beat.source ≡ wide) is own in
    rw (address, size, ← source) here

pub asks_placed : (plan : Plan) (past : List Sighting) → IsLawfulGroup plan past → (side : LinkSide) (wide : ℕ)
    → AllByRecursion (IsInPlace plan.layout wide) (asks plan side wide past)
asks_placed plan [] lawful side wide = tt
asks_placed plan (x ∷ past) lawful side wide = go (asks_placed plan past lawful.0 side wide) (is_of plan x side wide) refl
  where
    none : AllByRecursion (IsInPlace plan.layout wide) (asks plan side wide past)
        → AllByRecursion (IsInPlace plan.layout wide) (asks plan side wide past ++ [])
    none before = subst (λ l. AllByRecursion (IsInPlace plan.layout wide) l) (sym (append-nil (asks plan side wide past)))
        before

    ended : AllByRecursion (IsInPlace plan.layout wide) (asks plan side wide past) → (beat : Beat)
        → wide_of plan x.link (source_of beat) ≡ wide
        → IsAllowed plan (scene_of plan (state plan past) x.link beat) (record x { beat = beat })
        → AllByRecursion (IsInPlace plan.layout wide)
        (asks plan side wide past ++ ask_ended plan.layout past x beat)
    ended before (D beat) own allowed = none before
    ended before (A beat) own allowed = by_end
        (ask_of (bus_of plan.layout x.link) (asking_at plan.layout x.link past) beat
        (take (bus_of plan.layout x.link) x.lanes)) refl refl
        (ends_ask (bus_of plan.layout x.link) (asking_at plan.layout x.link past) beat)
      where
        by_end : (ask : Sent) → ask.ask.address ≡ beat.address → ask.ask.size ≡ beat.size → (ends : Bool)
            → AllByRecursion (IsInPlace plan.layout wide)
            (asks plan side wide past ++ (if ends then record { link = x.link; sent = ask } ∷ [] else []))
        by_end ask address size false = none before
        by_end ask address size true = all_more (IsInPlace plan.layout wide) (asks plan side wide past)
            (record { link = x.link; sent = ask }) before
            (in_place plan x.link wide beat ask own address size
            (beat_placed plan (state plan past) (asks_placed_so plan past lawful.0) x.link x.known x.lanes beat allowed))

    go : AllByRecursion (IsInPlace plan.layout wide) (asks plan side wide past) → (of : Bool)
        → is_of plan x side wide ≡ of → AllByRecursion (IsInPlace plan.layout wide)
        (if of then asks plan side wide past ++ ask_ended plan.layout past x x.beat else asks plan side wide past)
    go before true is = ended before x.beat (of_is plan x side wide is).1 lawful.1
    go before false is = before
