-- What the judge keeps of links: the messages that are under way there.
use Rattle.std.proofs.Common.{◌≡◌, ◌∙◌, Bool, true, false, if◌then◌else◌, List, [], ◌∷◌, refl, ap, sym, eqb-true}
use Rattle.check_beats.specs.Laws.{asking, replying}
use Rattle.check_beats.specs.State.{Under}
use Rattle.check_watch.specs.declared.beat.Beat.{Beat}
use Rattle.check_watch.specs.declared.beat.Beat.TheVariants.{A, D}
use Rattle.check_watch.specs.declared.beat.Link.{Link}
use Rattle.check_watch.specs.declared.beat.Link.TheVariants.{Master, Port}
use Rattle.check_watch.specs.Past.{State, scene_found, state, scene_in_group}
use Rattle.check_watch.specs.Plan.{Plan, Layout, Sighting, side_of, link_number, is_link, bus_of}
use Rattle.check_watch.specs.Scene.{once_answered, under_after}
use Rattle.check_watch_laws.specs.Crossed.{asks_over, replies_over, more_asks, more_replies, asking_at, replying_at}
use Rattle.check_watch_laws.proofs.Buses.{ask_on_bus_after, reply_on_bus_after}

-- a link is known by its side and its number
pub same_link : (a b : Link) → is_link a (side_of b) (link_number b) ≡ true → a ≡ b
same_link (Master m) (Master n) is = ap (λ k. Master k) (eqb-true m n is)
same_link (Master m) (Port n) is = cc
same_link (Port m) (Master n) is = cc
same_link (Port m) (Port n) is = ap (λ k. Port k) (eqb-true m n is)

-- what beats leave under way at a link
abbrev pub under_by : Layout → Link → List Sighting → Under
under_by layout link past = record {
  bus = bus_of layout link;
  asking = asking_at layout link past;
  replying = replying_at layout link past;
}

-- the messages that are under way at a link are so by its beats
abbrev pub LinksAre : Plan → State → List Sighting → Type 0
LinksAre plan s past = (link : Link) → s.links (side_of link) (link_number link) ≡ under_by plan.layout link past

under_more : (layout : Layout) (link : Link) (past : List Sighting) (x : Sighting) (beat : Beat)
    → under_after (under_by layout link past) beat x.known x.lanes
    ≡ record {
      bus = bus_of layout link;
      asking = asking (bus_of layout link) (more_asks (bus_of layout link) x beat (asks_over layout link past));
      replying = replying (bus_of layout link) (more_replies (bus_of layout link) x beat (replies_over layout link past));
    }
under_more layout link past x (A beat) =
    ap (λ a. record (under_by layout link past) { asking = a })
    (sym (ask_on_bus_after layout link (asking_at layout link past) beat x.lanes))
under_more layout link past x (D beat) =
    ap (λ r. record (under_by layout link past) { replying = r })
    (sym (reply_on_bus_after layout link (replying_at layout link past) beat x.known x.lanes))

under_found : (plan : Plan) (s : State) (link : Link) (beat : Beat)
    → (once_answered plan.layout link (scene_found plan s link beat) beat).under ≡ s.links (side_of link) (link_number link)
under_found plan s link (A beat) = refl
under_found plan s link (D beat) = refl

-- what is under way at a link is so by the beats of that link alone
pub links_are : (plan : Plan) (past : List Sighting) → LinksAre plan (state plan past) past
links_are plan [] link = refl
links_are plan (x ∷ past) link =
    go (is_link x.link (side_of link) (link_number link)) refl (links_are plan past x.link) (links_are plan past link)
  where
    go : (here : Bool) → is_link x.link (side_of link) (link_number link) ≡ here
        → (state plan past).links (side_of x.link) (link_number x.link) ≡ under_by plan.layout x.link past
        → (state plan past).links (side_of link) (link_number link) ≡ under_by plan.layout link past
        → (if here then under_after (scene_in_group plan past x).under x.beat x.known x.lanes
        else (state plan past).links (side_of link) (link_number link))
        ≡ record {
          bus = bus_of plan.layout link;
          asking = asking (bus_of plan.layout link) (if here
              then more_asks (bus_of plan.layout link) x x.beat (asks_over plan.layout link past)
              else asks_over plan.layout link past);
          replying = replying (bus_of plan.layout link) (if here
              then more_replies (bus_of plan.layout link) x x.beat (replies_over plan.layout link past)
              else replies_over plan.layout link past);
        }
    go true is there before =
        let at : x.link ≡ link = same_link x.link link is in
        ap (λ u. under_after u x.beat x.known x.lanes) (under_found plan (state plan past) x.link x.beat ∙ there)
        ∙ ap (λ l. under_after (under_by plan.layout l past) x.beat x.known x.lanes) at
        ∙ under_more plan.layout link past x x.beat
    go false is there before = before
