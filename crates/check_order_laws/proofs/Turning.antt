-- The moments of each port come in turn, if the beats are lawful.
use Rattle.std.proofs.Common.{ℕ, List, [], ◌∷◌, refl}
use Rattle.check_watch.specs.declared.beat.Beat.{Beat}
use Rattle.check_watch.specs.declared.beat.Beat.TheVariants.{A, D}
use Rattle.check_watch.specs.Lawful.{IsLawfulGroup, IsAllowed}
use Rattle.check_watch.specs.Past.{scene_of, state, state_after}
use Rattle.check_watch.specs.Plan.{Plan, Sighting}
use Rattle.check_watch_laws.specs.Crossed.{AreWatched}
use Rattle.check_watch_laws.specs.Moments.{moments, moments_with}
use Rattle.check_watch_laws.proofs.Flights.{in_step}
use Rattle.check_watch_laws.proofs.Links.{links_are}
use Rattle.check_watch_laws.proofs.Turns.{asks_fly}
use Rattle.check_watch_laws.proofs.UnderWay.{replies_answer}
use Rattle.check_order_laws.proofs.InTurn.{open_after, none_open, AreInTurn, in_turn_more}
use Rattle.check_order_laws.proofs.Openings.{AreOpen}
use Rattle.check_order_laws.proofs.OpenAsks.{ask_opens, ask_in_turn}
use Rattle.check_order_laws.proofs.OpenReplies.{reply_opens, reply_in_turn}

pub are_open : (plan : Plan) (past : List Sighting) → AreWatched plan.layout past → IsLawfulGroup plan past
    → AreOpen plan (state plan past) past
are_open plan [] watched lawful = λ port wide. refl
are_open plan (x ∷ past) watched lawful = go (are_open plan past watched.1 lawful.0) x.beat lawful.1
  where
    go : AreOpen plan (state plan past) past → (beat : Beat)
        → IsAllowed plan (scene_of plan (state plan past) x.link beat) (record x { beat = beat })
        → AreOpen plan (state_after plan (state plan past) (record x { beat = beat })) (record x { beat = beat } ∷ past)
    go opens (A beat) allowed =
        ask_opens plan (state plan past) past (links_are plan past) (asks_fly plan past lawful.0)
        (replies_answer plan past lawful.0) opens x.link x.known x.lanes watched.0.link watched.0.watched beat allowed
    go opens (D beat) allowed =
        reply_opens plan (state plan past) past (links_are plan past) (in_step plan past lawful.0) opens
        x.link x.known x.lanes watched.0.link watched.0.watched beat allowed

pub come_in_turn : (plan : Plan) (past : List Sighting) → AreWatched plan.layout past → IsLawfulGroup plan past → (port : ℕ)
    → AreInTurn none_open (moments plan port past)
come_in_turn plan [] watched lawful port = tt
come_in_turn plan (x ∷ past) watched lawful port =
    in_turn_more none_open (moments plan port past) (moments_with plan port past x x.beat)
    (come_in_turn plan past watched.1 lawful.0 port)
    (go (are_open plan past watched.1 lawful.0) x.beat lawful.1)
  where
    go : AreOpen plan (state plan past) past → (beat : Beat)
        → IsAllowed plan (scene_of plan (state plan past) x.link beat) (record x { beat = beat })
        → AreInTurn (open_after none_open (moments plan port past))
        (moments_with plan port past (record x { beat = beat }) beat)
    go opens (A beat) allowed =
        ask_in_turn plan (state plan past) past (links_are plan past) (asks_fly plan past lawful.0)
        (replies_answer plan past lawful.0) opens x.link x.known x.lanes watched.0.link watched.0.watched beat allowed
        port
    go opens (D beat) allowed =
        reply_in_turn plan (state plan past) past (links_are plan past) (in_step plan past lawful.0) opens
        x.link x.known x.lanes watched.0.link watched.0.watched beat allowed port
