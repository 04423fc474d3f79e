-- What is kept of all links, after one beat more.
use Rattle.std.proofs.Common.{◌≡◌, ◌∙◌, ℕ, zero, suc, ◌<◌, ◌≤◌, ◌⊎◌, inl, inr, Bool, true, false, List, [], ◌∷◌, length, Some, slice_get, get_or, refl, ap, sym, subst, arith, eqb-true, length-set}
use Rattle.std.specs.Prelude.{◌==◌, IsTrue, Option, Result, slice_set}
use Rattle.std.proofs.lemmas.Bool.{eqb-false}
use Rattle.tl_types.proofs.Lists.{slice_get-set_same, slice_get-set_other}
use Rattle.tl_map.specs.declared.range.Range.{Range}
use Rattle.tl_map.specs.Owner.{IsOwned}
use Rattle.check_beats.specs.declared.rules.LinkRules.{LinkRules}
use Rattle.check_flight.specs.Side.{bus_at}
use Rattle.check_watch.specs.declared.beat.Beat.{Beat}
use Rattle.check_watch.specs.declared.beat.Link.{Link}
use Rattle.check_watch.specs.declared.beat.Link.TheVariants.{Port}
use Rattle.check_watch.specs.declared.fault.StepError.{StepError}
use Rattle.check_watch.specs.declared.seen.Ended.{Ended}
use Rattle.check_watch.specs.declared.seen.Seen.{Seen}
use Rattle.check_watch.specs.Lawful as group_lawful
use Rattle.check_watch.specs.Lawful.{IsAllowed}
use Rattle.check_watch.specs.Past.{scene_in_group}
use Rattle.check_watch.specs.Plan.{Sighting, seen_at}
use Rattle.check_watch.specs.Steps.{IsGroupStep, IsGroupTake, IsStepBy, IsTakeBy}
use Rattle.check_watch.specs.View as group_view
use Rattle.check_watch.specs.View.{GroupView}
use Rattle.check_sides.specs.Groups.{everybody, is_alone, shared_past, port_plan, port_past, past_at}
use Rattle.check_sides.specs.Lawful.{IsFirstRequest, IsLawful, IsNewcomer, SlaveMayNeedMemory, MayNeedMemory}
use Rattle.check_sides.specs.Plan.{HasLink, Layout, Plan, bus_of}
use Rattle.check_sides.specs.Steps.{IsAloneStep, IsAloneTake, IsStepAfter, IsTakeAfter, MayNeedAlone}
use Rattle.check_sides.specs.View.{IsOwnPort, IsSized, Keeps, KeepsPort, PortView, View}
use Rattle.check_sides.proofs.Outcomes.{step_as, take_as}
use Rattle.check_sides.proofs.Grouping.{apart_from, in_group, of_group, port_more, port_other, port_same, shared_more, shared_same}

owns_all : (source : ℕ) → source < 65536 → IsOwned (everybody ∷ []) source
owns_all source small = (0, (source, record { has = small; at = omega arith }))

within : {X : Type 0} (xs : List X) (k : ℕ) (x : X) → slice_get xs k ≡ Some x → k < length xs
within [] k x is = cc
within (y ∷ xs) zero x is = omega arith
within (y ∷ xs) (suc k) x is = let rest = within xs k x is in omega (arith, rest)

-- what stands at a place, from a read of it
stands_at : {X : Type 0} (xs : List X) (k : ℕ) (x : X) → k < length xs → x ≡ get_or xs k x
    → slice_get xs k ≡ Some x
stands_at [] k x inside read = absurd (omega (arith, inside))
stands_at (y ∷ xs) zero x inside read = ap Some (sym read)
stands_at (y ∷ xs) (suc k) x inside read = stands_at xs k x (omega (arith, inside)) read

-- at a port's link that is judged by itself: its slave serves a request, or a source is new
pub needed_alone : (plan : Plan) (past : List Sighting) (x : Sighting) → is_alone plan.layout x.link ≡ true
    → (SlaveMayNeedMemory plan past x ⊎ IsFirstRequest (past_at plan.layout x.link past) x.beat) → MayNeedMemory plan past x
needed_alone plan past x alone (inl served) = inl served
needed_alone plan past x alone (inr first) = inr (alone, first)

-- ---- a port's link that is judged by itself, as the fields have it and as it is seen

module _ (view now : View) (port : ℕ) (link : Link) (same : view ≡ now) (here : link ≡ Port port)
    (alone : is_alone now.layout link ≡ true) where
  pub alone_before : is_alone view.layout (Port port) ≡ true
  alone_before =
      subst (λ (v : View). is_alone v.layout (Port port) ≡ true) (sym same)
      (subst (λ (l : Link). is_alone now.layout l ≡ true) here alone)

  -- it has its place
  pub placed_before : IsSized view → HasLink now.layout link → port < length view.ports
  placed_before sized known =
      let room : length view.ports ≡ length view.layout.ports =
      sized.ports (apart_from view.layout (Port port) alone_before) in
      let inside : port < length view.layout.ports =
      subst (λ (v : View). HasLink v.layout (Port port)) (sym same)
      (subst (λ (l : Link). HasLink now.layout l) here known) in
      omega (arith, room, inside)

  module _ (sized : IsSized view) (known : HasLink now.layout link) (one : PortView)
      (read : one ≡ get_or view.ports port one) where
    -- what is read there stands there
    pub found_before : slice_get view.ports port ≡ Some one
    found_before = stands_at view.ports port one (placed_before sized known) read

    -- and there are lanes for its bus
    pub wide_before : (lanes : ℕ) → bus_of now.layout link ≤ lanes → one.under.bus ≤ lanes
    wide_before lanes wide =
        let bus : one.under.bus ≡ bus_at view.layout.port_buses port = sized.buses port one found_before in
        let enough : bus_at view.layout.port_buses port ≤ lanes =
        subst (λ (v : View). bus_of v.layout (Port port) ≤ lanes) (sym same)
        (subst (λ (l : Link). bus_of now.layout l ≤ lanes) here wide) in
        omega (arith, bus, enough)

module _ (plan : Plan) (past : List Sighting) (view : View) (port : ℕ) (beat : Beat) (known : ℕ) (lanes : List ℕ)
    (keeps : Keeps plan past view) (alone : is_alone plan.layout (Port port) ≡ true) where
  abbrev pub at_alone : Sighting
  at_alone = seen_at (Port port) beat known lanes

  pub own_port : (links : LinkRules) (map : List (List Range)) → plan.layout.rules ≡ links → plan.layout.ports ≡ map
      → IsOwnPort (port_plan plan).layout links map
  own_port links map rules ranges = record { watched = refl; rules = rules; anybody = owns_all; ranges = ranges; paths = refl }

  pub kept_here : (link : PortView) → slice_get view.ports port ≡ Some link
      → KeepsPort (port_plan plan) port (port_past port past) link
  kept_here link found = keeps.ports port alone link found

  pub alone_lawful : group_lawful.IsLawfulGroup (port_plan plan) (at_alone ∷ port_past port past)
      → IsLawful plan (at_alone ∷ past)
  alone_lawful here = (
    keeps.lawful,
    of_group plan past (Port port) (λ p l. IsAllowed p (scene_in_group p l at_alone) at_alone) true alone here.1,
  )

  pub alone_allowed : (link : PortView) → slice_get view.ports port ≡ Some link → IsLawful plan (at_alone ∷ past)
      → group_lawful.IsLawfulGroup (port_plan plan) (at_alone ∷ port_past port past)
  alone_allowed link found lawful = (
    (kept_here link found).lawful,
    in_group plan past (Port port) (λ p l. IsAllowed p (scene_in_group p l at_alone) at_alone) true alone lawful.1,
  )

  pub alone_kept : (link new : PortView) → slice_get view.ports port ≡ Some link
      → KeepsPort (port_plan plan) port (at_alone ∷ port_past port past) new
      → Keeps plan (at_alone ∷ past) (record view { ports = slice_set view.ports port new })
  alone_kept link new found here = record {
    suits = record { lawful = keeps.suits.lawful; layout = keeps.suits.layout };
    lawful = alone_lawful here.lawful;
    shared = subst (λ p. group_view.KeepsGroup plan p view.shared)
        (sym (shared_same beat known lanes past plan.layout (Port port) alone)) keeps.shared;
    ports = λ other apart one is. each other apart one is (port == other) refl;
  }
    where
      each : (other : ℕ) → IsTrue (is_alone plan.layout (Port other)) → (one : PortView)
          → slice_get (slice_set view.ports port new) other ≡ Some one
          → (same : Bool) → (port == other) ≡ same
          → KeepsPort (port_plan plan) other (port_past other (at_alone ∷ past)) one
      each other apart one is true same =
          let e = eqb-true port other same in
          let put = slice_get-set_same view.ports port new (within view.ports port link found) in
          let both : slice_get (slice_set view.ports port new) port ≡ Some one =
          ap (λ k. slice_get (slice_set view.ports port new) k) e ∙ is in
          let stands : new ≡ one = cc in
          subst (λ k. KeepsPort (port_plan plan) k (port_past k (at_alone ∷ past)) one) e
          (subst (λ p. KeepsPort (port_plan plan) port p one) (sym (port_more beat known lanes past port))
          (subst (λ (l : PortView). KeepsPort (port_plan plan) port (at_alone ∷ port_past port past) l) stands here))
      each other apart one is false same =
          let differ = eqb-false port other same in
          subst (λ p. KeepsPort (port_plan plan) other p one) (sym (port_other beat known lanes past port other differ))
          (keeps.ports other apart one (sym (slice_get-set_other view.ports port other new differ) ∙ is))

  module _ (link new : PortView) (found : slice_get view.ports port ≡ Some link) where
    abbrev after_alone : View
    after_alone = record view { ports = slice_set view.ports port new }

    pub alone_step : (r : Result Seen StepError) → IsAloneStep (port_plan plan) port (port_past port past) at_alone new r
        → IsStepAfter plan past at_alone after_alone r
    alone_step r is =
        step_as _ (λ lawful. lawful) (λ lawful. lawful) (λ kept. kept) (needed_alone plan past at_alone alone) _ r
        (of_group plan past (Port port)
        (λ p l. IsStepBy (IsLawful plan (at_alone ∷ past)) (Keeps plan (at_alone ∷ past) after_alone)
        (group_lawful.seen_in_group p l at_alone) (group_lawful.IsFirstGroupFault p l at_alone) (MayNeedAlone p l at_alone) r)
        true alone (step_as _ alone_lawful (alone_allowed link found) (alone_kept link new found) (λ need. need) _ r is))

    pub alone_take : {E : Type 0} (r : Result (Option Ended) E)
        → IsAloneTake (port_plan plan) port (port_past port past) at_alone new r → IsTakeAfter plan past at_alone after_alone r
    alone_take r is =
        take_as _ (λ lawful. lawful) (λ lawful. lawful) (λ kept. kept) (needed_alone plan past at_alone alone) r
        (of_group plan past (Port port)
        (λ p l. IsTakeBy (IsLawful plan (at_alone ∷ past)) (Keeps plan (at_alone ∷ past) after_alone)
        (group_lawful.seen_in_group p l at_alone) (MayNeedAlone p l at_alone) r)
        true alone (take_as _ alone_lawful (alone_allowed link found) (alone_kept link new found) (λ need. need) r is))

-- one port's link is written, and keeps its bus
pub sized_with : (view : View) (port : ℕ) (link new : PortView) → IsSized view → slice_get view.ports port ≡ Some link
    → new.under.bus ≡ link.under.bus → IsSized (record view { ports = slice_set view.ports port new })
sized_with view port link new sized found same = record {
  ports = λ apart. rw (length-set view.ports port new) (sized.ports apart);
  buses = λ other one is. each other one is (port == other) refl;
}
  where
    each : (other : ℕ) (one : PortView) → slice_get (slice_set view.ports port new) other ≡ Some one
        → (here : Bool) → (port == other) ≡ here → one.under.bus ≡ bus_at view.layout.port_buses other
    each other one is true here =
        let e = eqb-true port other here in
        let put = slice_get-set_same view.ports port new (within view.ports port link found) in
        let both : slice_get (slice_set view.ports port new) port ≡ Some one =
        ap (λ k. slice_get (slice_set view.ports port new) k) e ∙ is in
        let stands : new ≡ one = cc in
        ap (λ (l : PortView). l.under.bus) (sym stands) ∙ same ∙ sized.buses port link found
        ∙ ap (λ k. bus_at view.layout.port_buses k) e
    each other one is false here =
        sized.buses other one (sym (slice_get-set_other view.ports port other new (eqb-false port other here)) ∙ is)

-- ---- links that are judged together

module _ (plan : Plan) (past : List Sighting) (view : View) (x : Sighting) (keeps : Keeps plan past view)
    (shared : is_alone plan.layout x.link ≡ false) where
  pub shared_lawful : group_lawful.IsLawfulGroup plan (x ∷ shared_past plan.layout past)
      → IsLawful plan (x ∷ past)
  shared_lawful here = (
    keeps.lawful,
    of_group plan past x.link (λ p l. IsAllowed p (scene_in_group p l x) x) false shared here.1,
  )

  pub shared_allowed : IsLawful plan (x ∷ past)
      → group_lawful.IsLawfulGroup plan (x ∷ shared_past plan.layout past)
  shared_allowed lawful = (
    keeps.shared.lawful,
    in_group plan past x.link (λ p l. IsAllowed p (scene_in_group p l x) x) false shared lawful.1,
  )

  pub shared_kept : (new : GroupView) (layout : Layout) → layout ≡ plan.layout
      → group_view.KeepsGroup plan (x ∷ shared_past plan.layout past) new
      → Keeps plan (x ∷ past) (record { layout = layout; shared = new; ports = view.ports })
  shared_kept new layout is here = record {
    suits = record { lawful = keeps.suits.lawful; layout = is };
    lawful = shared_lawful here.lawful;
    shared = subst (λ p. group_view.KeepsGroup plan p new)
        (sym (shared_more x.beat x.known x.lanes past plan.layout x.link shared)) here;
    ports = λ port apart one found. subst (λ p. KeepsPort (port_plan plan) port p one)
        (sym (port_same x.beat x.known x.lanes past plan.layout x.link port shared apart))
        (keeps.ports port apart one found);
  }

  module _ (new : GroupView) (layout : Layout) (same : layout ≡ plan.layout) where
    abbrev after_shared : View
    after_shared = record { layout = layout; shared = new; ports = view.ports }

    pub shared_step : (r : Result Seen StepError) → IsGroupStep plan (shared_past plan.layout past) x new r
        → IsStepAfter plan past x after_shared r
    shared_step r is =
        of_group plan past x.link
        (λ p l. IsStepBy (IsLawful plan (x ∷ past)) (Keeps plan (x ∷ past) after_shared) (group_lawful.seen_in_group p l x)
        (group_lawful.IsFirstGroupFault p l x) (group_lawful.GroupMayNeedMemory p l x ⊎ IsNewcomer plan past x) r) false shared
        (step_as _ shared_lawful shared_allowed (shared_kept new layout same) (λ need. inl need) _ r is)

    pub shared_take : {E : Type 0} (r : Result (Option Ended) E)
        → IsGroupTake plan (shared_past plan.layout past) x new r → IsTakeAfter plan past x after_shared r
    shared_take r is =
        of_group plan past x.link
        (λ p l. IsTakeBy (IsLawful plan (x ∷ past)) (Keeps plan (x ∷ past) after_shared) (group_lawful.seen_in_group p l x)
        (group_lawful.GroupMayNeedMemory p l x ⊎ IsNewcomer plan past x) r) false shared
        (take_as _ shared_lawful shared_allowed (shared_kept new layout same) (λ need. inl need) r is)
