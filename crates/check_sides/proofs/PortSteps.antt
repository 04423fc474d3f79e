-- What is kept of a port's link that is judged by itself, after one beat more.
use Rattle.std.proofs.Common.{◌≡◌, ◌∙◌, ℕ, Bool, true, false, if◌then◌else◌, List, ◌∷◌, refl, ap, sym, subst}
use Rattle.std.specs.Prelude.{◌==◌}
use Rattle.std.proofs.lemmas.Bool.{eqb-false}
use Rattle.check_beats.specs.State.{Under}
use Rattle.check_flight.specs.Flight.{Flight}
use Rattle.check_flight.specs.PortSlave.{PortSlave, accepting}
use Rattle.check_watch.specs.declared.beat.Beat.{Beat}
use Rattle.check_watch.specs.declared.beat.Beat.TheVariants.{A, D}
use Rattle.check_watch.specs.declared.beat.Link.TheVariants.{Port}
use Rattle.check_watch.specs.Lawful.{IsLawfulGroup}
use Rattle.check_watch.specs.Past.{scene_found, state, scene_in_group}
use Rattle.check_watch.specs.Plan.{Plan, Sighting, seen_at, source_of}
use Rattle.check_watch.specs.Plan.LinkSide.{AtMasters, AtPorts}
use Rattle.check_watch.specs.Scene.{Scene, accepted, flight_after, once_answered, under_after}
use Rattle.check_sides.specs.View.{Beyond, IsAfter, KeepsPort, PortView, flight_in, port_scene}

-- at a place where it stands, the first of two answers
if_here : {X : Type 0} (k : ℕ) (p q : X) → (if k == k then p else q) ≡ p
if_here {X} k p q = go (k == k) refl
  where
    go : (same : Bool) → (k == k) ≡ same → (if same then p else q) ≡ p
    go true is = refl
    go false is = absurd (eqb-false k k is refl)

module _ (plan : Plan) (port : ℕ) (past : List Sighting) (view : PortView) (known : ℕ) (lanes : List ℕ)
    (keeps : KeepsPort plan port past view) where
  abbrev pub beyond_of : ℕ → Beyond
  beyond_of source = record {
    sent = ((state plan past).flights AtMasters source).turn;
    crossing = (state plan past).crossings source;
  }

  abbrev pub at_port : Beat → Sighting
  at_port beat = seen_at (Port port) beat known lanes

  -- what a beat finds is found by what is kept
  abbrev found_here : Beat → Scene
  found_here beat = record {
    under = view.under;
    wide = source_of beat;
    flight = flight_in view (source_of beat);
    sent = (beyond_of (source_of beat)).sent;
    crossing = (beyond_of (source_of beat)).crossing;
    port = port;
    slave = view.slave;
  }

  found_is : (beat : Beat) → scene_found plan (state plan past) (Port port) beat ≡ found_here beat
  found_is beat =
      let s = state plan past in
      let source = source_of beat in
      let found : Under → Flight → PortSlave → Scene =
      λ u f v. record {
        under = u;
        wide = source;
        flight = f;
        sent = (s.flights AtMasters source).turn;
        crossing = s.crossings source;
        port = port;
        slave = v;
      } in
      ap (λ (u : Under). found u (s.flights AtPorts source) (s.slaves port)) keeps.under
      ∙ ap (λ (f : Flight). found view.under f (s.slaves port)) (keeps.flights source)
      ∙ ap (λ (v : PortSlave). found view.under (flight_in view source) v) keeps.slave

  pub scene_is : (beat : Beat)
      → scene_in_group plan past (at_port beat) ≡ port_scene plan.layout port (beyond_of (source_of beat)) view beat
  scene_is beat = ap (λ (s : Scene). once_answered plan.layout (Port port) s beat) (found_is beat)

  pub carried : (beat : Beat) (Q : Scene → Type 0)
      → Q (port_scene plan.layout port (beyond_of (source_of beat)) view beat) → Q (scene_in_group plan past (at_port beat))
  carried beat Q here = subst Q (sym (scene_is beat)) here

  -- the same the other way
  pub found : (beat : Beat) (Q : Scene → Type 0) → Q (scene_in_group plan past (at_port beat))
      → Q (port_scene plan.layout port (beyond_of (source_of beat)) view beat)
  found beat Q there = subst Q (scene_is beat) there

  -- ---- what is kept

  module _ (new : PortView) where
    flights_after : (beat : Beat) → IsAfter plan.layout port (beyond_of (source_of beat)) view new beat known lanes
        → (source : ℕ)
        → (if source_of beat == source
        then flight_after plan.layout (Port port) (scene_in_group plan past (at_port beat)) beat lanes
        else (state plan past).flights AtPorts source)
        ≡ flight_in new source
    flights_after beat after source =
        ap (λ (s : Scene). if source_of beat == source then flight_after plan.layout (Port port) s beat lanes
        else (state plan past).flights AtPorts source) (scene_is beat)
        ∙ ap (λ (f : Flight). if source_of beat == source then flight_after plan.layout (Port port)
        (port_scene plan.layout port (beyond_of (source_of beat)) view beat) beat lanes else f) (keeps.flights source)
        ∙ sym (after.flights source)

    slave_after : (beat : Beat) → IsAfter plan.layout port (beyond_of (source_of beat)) view new beat known lanes
        → accepting (scene_in_group plan past (at_port beat)).slave (scene_in_group plan past (at_port beat)).wide
        (accepted plan.layout (Port port) (scene_in_group plan past (at_port beat)) beat lanes) ≡ new.slave
    slave_after beat after =
        ap (λ (s : Scene). accepting s.slave s.wide (accepted plan.layout (Port port) s beat lanes)) (scene_is beat)
        ∙ sym after.slave

    pub kept : (beat : Beat) → IsAfter plan.layout port (beyond_of (source_of beat)) view new beat known lanes
        → IsLawfulGroup plan (at_port beat ∷ past) → KeepsPort plan port (at_port beat ∷ past) new
    kept (A beat) after lawful = record {
      lawful = lawful;
      under = if_here port _ _ ∙ ap (λ (u : Under). under_after u (A beat) known lanes) keeps.under ∙ sym after.under;
      flights = flights_after (A beat) after;
      slave = if_here port _ _ ∙ slave_after (A beat) after;
      unkept = λ source none. let was = after.unkept source none in (was.1, keeps.unkept source was.0);
    }
    kept (D beat) after lawful = record {
      lawful = lawful;
      under = if_here port _ _ ∙ ap (λ (u : Under). under_after u (D beat) known lanes) keeps.under ∙ sym after.under;
      flights = flights_after (D beat) after;
      slave = if_here port _ _ ∙ slave_after (D beat) after;
      unkept = λ source none. let was = after.unkept source none in (was.1, keeps.unkept source was.0);
    }
