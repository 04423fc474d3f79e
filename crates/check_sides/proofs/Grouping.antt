-- Which beats are judged together, after one beat more.
use Rattle.std.proofs.Common.{◌≡◌, ◌∙◌, ℕ, Bool, true, false, if◌then◌else◌, List, ◌∷◌, refl, ap, sym, subst, eqb-true}
use Rattle.std.specs.Prelude.{◌==◌, IsTrue}
use Rattle.std.proofs.lemmas.Bool.{eqb-false}
use Rattle.check_watch.specs.declared.beat.Link.{Link}
use Rattle.check_watch.specs.declared.beat.Link.TheVariants.{Master, Port}
use Rattle.check_watch.specs.declared.beat.Beat.{Beat}
use Rattle.check_watch.specs.Plan.{AreMastersTogether, IsGroupLink, IsPortTogether, Layout, Plan, Sighting, is_apart, link_number, seen_at}
use Rattle.check_watch.specs.declared.links.Links.{Links}
use Rattle.check_watch.specs.declared.links.Links.TheVariants.{Both, Masters, Ports, Each}
use Rattle.check_sides.specs.Groups.{are_apart, is_alone, is_any_set, is_port_alone, shared_past, port_plan, port_past, plan_at, past_at}
use Rattle.check_sides.specs.Plan.{IsWatched}
use Rattle.check_sides.proofs.Setting.{any_from}

module _ (beat : Beat) (known : ℕ) (lanes : List ℕ) (past : List Sighting) where
  abbrev pub at : Link → Sighting
  at link = seen_at link beat known lanes

  -- a beat of links that are judged together is one of theirs
  pub shared_more : (layout : Layout) (link : Link) → is_alone layout link ≡ false
      → shared_past layout (at link ∷ past) ≡ at link ∷ shared_past layout past
  shared_more layout link is = rw is refl

  -- a beat of a port's link that is judged by itself is none of theirs
  pub shared_same : (layout : Layout) (link : Link) → is_alone layout link ≡ true
      → shared_past layout (at link ∷ past) ≡ shared_past layout past
  shared_same layout link is = rw is refl

  -- it is one of that link, and none of any other
  pub port_more : (port : ℕ) → port_past port (at (Port port) ∷ past) ≡ at (Port port) ∷ port_past port past
  port_more port = go (port == port) refl
    where
      go : (same : Bool) → (port == port) ≡ same
          → port_past port (at (Port port) ∷ past) ≡ at (Port port) ∷ port_past port past
      go true is = rw is refl
      go false is = absurd (eqb-false port port is refl)

  pub port_same : (layout : Layout) (link : Link) (port : ℕ) → is_alone layout link ≡ false
      → is_alone layout (Port port) ≡ true → port_past port (at link ∷ past) ≡ port_past port past
  port_same layout (Master m) port is alone = refl
  port_same layout (Port p) port is alone = go (p == port) refl
    where
      go : (same : Bool) → (p == port) ≡ same → port_past port (at (Port p) ∷ past) ≡ port_past port past
      go true here =
          let e : p ≡ port = eqb-true p port here in
          let never : true ≡ false = sym alone ∙ ap (λ n. is_alone layout (Port n)) (sym e) ∙ is in
          cc
      go false here = rw here refl

  pub port_other : (port other : ℕ) → (port ≡ other → ⊥)
      → port_past other (at (Port port) ∷ past) ≡ port_past other past
  port_other port other apart = go (port == other) refl
    where
      go : (same : Bool) → (port == other) ≡ same → port_past other (at (Port port) ∷ past) ≡ port_past other past
      go true is = absurd (apart (eqb-true port other is))
      go false is = rw is refl

-- if a link is judged by itself, some port's is
pub apart_from : (layout : Layout) (link : Link) → is_alone layout link ≡ true → IsTrue (are_apart layout)
apart_from layout (Master m) is = cc
apart_from layout (Port p) is = go layout.links is
  where
    go : (links : Links) → is_port_alone links (is_apart layout p) ≡ true → is_port_alone links (is_any_set layout.apart) ≡ true
    go Both is = any_from layout.apart p is
    go Masters is = cc
    go Ports is = cc
    go Each is = refl

-- a link that is watched, and is not judged by itself, is one of those that are judged together
pub in_group_watched : (layout : Layout) (link : Link) → is_alone layout link ≡ false → IsWatched layout.links link
    → IsGroupLink layout link
in_group_watched layout (Master m) is has = go layout.links has
  where
    go : (links : Links) → IsWatched links (Master m) → AreMastersTogether links
    go Both has = tt
    go Masters has = tt
    go Ports has = has
    go Each has = tt
in_group_watched layout (Port p) is has = go layout.links (is_apart layout p) is has
  where
    go : (links : Links) (apart : Bool) → is_port_alone links apart ≡ false → IsWatched links (Port p)
        → IsPortTogether links apart
    go Both false is has = tt
    go Both true is has = cc
    go Masters apart is has = has
    go Ports apart is has = tt
    go Each apart is has = cc

-- ---- what is said of the group of a link

module _ (plan : Plan) (past : List Sighting) (link : Link) (P : Plan → List Sighting → Type 0) where
  abbrev said_by : Bool → Type 0
  said_by alone =
      P (if alone then port_plan plan else plan)
      (if alone then port_past (link_number link) past else shared_past plan.layout past)

  pub of_group : (alone : Bool) → is_alone plan.layout link ≡ alone → said_by alone
      → P (plan_at plan link) (past_at plan.layout link past)
  of_group alone is said = subst said_by (sym is) said

  pub in_group : (alone : Bool) → is_alone plan.layout link ≡ alone
      → P (plan_at plan link) (past_at plan.layout link past) → said_by alone
  in_group alone is said = subst said_by is said
