-- The beats of a link fit one after the other.
use Rattle.std.proofs.Common.{◌≡◌, Bool, true, false, if◌then◌else◌, List, [], ◌∷◌, refl, sym, subst}
use Rattle.std.proofs.lemmas.List.{length-take-le}
use Rattle.check_beats.specs.Form.{FitsAsk, FitsReply}
use Rattle.check_beats.specs.Laws.{AreFitting, AreFittingReplies}
use Rattle.check_beats.specs.State.{Under, first_ask, first_reply}
use Rattle.check_watch.specs.declared.beat.Beat.{Beat}
use Rattle.check_watch.specs.declared.beat.Beat.TheVariants.{A, D}
use Rattle.check_watch.specs.declared.beat.Link.{Link}
use Rattle.check_watch.specs.Lawful.{IsLawfulGroup, IsAllowed}
use Rattle.check_watch.specs.Past.{state, scene_of}
use Rattle.check_watch.specs.Plan.{Plan, Sighting, side_of, link_number, is_link, bus_of}
use Rattle.check_watch_laws.specs.Crossed.{AreWatched, asks_over, replies_over, more_asks, more_replies}
use Rattle.check_watch_laws.proofs.Links.{links_are, same_link}

pub asks_fit : (plan : Plan) (past : List Sighting) → AreWatched plan.layout past → IsLawfulGroup plan past → (link : Link)
    → AreFitting (bus_of plan.layout link) (asks_over plan.layout link past)
asks_fit plan [] watched lawful link = tt
asks_fit plan (x ∷ past) watched lawful link =
    go (asks_fit plan past watched.1 lawful.0 link) (is_link x.link (side_of link) (link_number link)) refl
  where
    fits : (beat : Beat) → IsAllowed plan (scene_of plan (state plan past) x.link beat) (record x { beat = beat })
        → AreFitting (bus_of plan.layout x.link) (asks_over plan.layout x.link past)
        → AreFitting (bus_of plan.layout x.link)
        (more_asks (bus_of plan.layout x.link) x beat (asks_over plan.layout x.link past))
    fits (A beat) allowed before = (
      before,
      subst (λ (u : Under). FitsAsk u.bus (first_ask u.asking) beat) (links_are plan past x.link) allowed.fits,
      length-take-le (bus_of plan.layout x.link) x.lanes watched.0.lanes,
    )
    fits (D beat) allowed before = before

    go : AreFitting (bus_of plan.layout link) (asks_over plan.layout link past)
        → (here : Bool) → is_link x.link (side_of link) (link_number link) ≡ here
        → AreFitting (bus_of plan.layout link) (if here
        then more_asks (bus_of plan.layout link) x x.beat (asks_over plan.layout link past)
        else asks_over plan.layout link past)
    go before true is =
        let at : x.link ≡ link = same_link x.link link is in
        subst (λ l. AreFitting (bus_of plan.layout l)
        (more_asks (bus_of plan.layout l) x x.beat (asks_over plan.layout l past))) at
        (fits x.beat lawful.1
        (subst (λ l. AreFitting (bus_of plan.layout l) (asks_over plan.layout l past)) (sym at) before))
    go before false is = before

pub replies_fit : (plan : Plan) (past : List Sighting) → AreWatched plan.layout past → IsLawfulGroup plan past
    → (link : Link) → AreFittingReplies (bus_of plan.layout link) (replies_over plan.layout link past)
replies_fit plan [] watched lawful link = tt
replies_fit plan (x ∷ past) watched lawful link =
    go (replies_fit plan past watched.1 lawful.0 link) (is_link x.link (side_of link) (link_number link)) refl
  where
    fits : (beat : Beat) → IsAllowed plan (scene_of plan (state plan past) x.link beat) (record x { beat = beat })
        → AreFittingReplies (bus_of plan.layout x.link) (replies_over plan.layout x.link past)
        → AreFittingReplies (bus_of plan.layout x.link)
        (more_replies (bus_of plan.layout x.link) x beat (replies_over plan.layout x.link past))
    fits (D beat) allowed before = (
      before,
      subst (λ (u : Under). FitsReply (first_reply u.replying) beat) (links_are plan past x.link) allowed.fits,
      length-take-le (bus_of plan.layout x.link) x.lanes watched.0.lanes,
    )
    fits (A beat) allowed before = before

    go : AreFittingReplies (bus_of plan.layout link) (replies_over plan.layout link past)
        → (here : Bool) → is_link x.link (side_of link) (link_number link) ≡ here
        → AreFittingReplies (bus_of plan.layout link) (if here
        then more_replies (bus_of plan.layout link) x x.beat (replies_over plan.layout link past)
        else replies_over plan.layout link past)
    go before true is =
        let at : x.link ≡ link = same_link x.link link is in
        subst (λ l. AreFittingReplies (bus_of plan.layout l)
        (more_replies (bus_of plan.layout l) x x.beat (replies_over plan.layout l past))) at
        (fits x.beat lawful.1
        (subst (λ l. AreFittingReplies (bus_of plan.layout l) (replies_over plan.layout l past)) (sym at) before))
    go before false is = before
