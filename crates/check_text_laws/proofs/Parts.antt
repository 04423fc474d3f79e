-- A list is lawful exactly if the beats of each group are.
use Rattle.std.proofs.Common.{◌≡◌, ℕ, Bool, true, false, List, [], ◌∷◌, ◌++◌, ◌∙◌, refl, ap, sym, subst, eqb-true}
use Rattle.std.specs.Prelude.{◌↔◌, ◌==◌, IsTrue}
use Rattle.std.proofs.lemmas.Bool.{eqb-false}
use Rattle.check_watch.specs.declared.beat.Beat.{Beat}
use Rattle.check_watch.specs.declared.beat.Link.{Link}
use Rattle.check_watch.specs.declared.beat.Link.TheVariants.{Master, Port}
use Rattle.check_watch.specs.Lawful as group_lawful
use Rattle.check_watch.specs.Lawful.{IsAllowed}
use Rattle.check_watch.specs.Past.{scene_in_group}
use Rattle.check_watch.specs.Plan.{Sighting, link_number, seen_at}
use Rattle.check_sides.specs.Groups.{are_apart, is_alone, plan_at, past_at, shared_past, port_plan, port_past}
use Rattle.check_sides.specs.Lawful.{IsLawful}
use Rattle.check_sides.specs.Plan.{Layout, Plan}
use Rattle.check_sides.proofs.Fresh.{shared_none}
use Rattle.check_sides.proofs.Grouping.{apart_from, in_group, of_group, port_more, port_other, port_same, shared_more, shared_same}

pub earlier_is_lawful : (plan : Plan) (later earlier : List Sighting) → IsLawful plan (later ++ earlier)
    → IsLawful plan earlier
earlier_is_lawful plan [] earlier lawful = lawful
earlier_is_lawful plan (x ∷ later) earlier lawful = earlier_is_lawful plan later earlier lawful.0

-- ---- the parts of a lawful list

-- a beat is lawful after these of its group
abbrev IsNext : Plan → List Sighting → Sighting → Type 0
IsNext plan past x =
    IsAllowed (plan_at plan x.link) (scene_in_group (plan_at plan x.link) (past_at plan.layout x.link past) x) x

shared_next : (plan : Plan) (past : List Sighting) (x : Sighting) (b : Bool) → is_alone plan.layout x.link ≡ b
    → group_lawful.IsLawfulGroup plan (shared_past plan.layout past) → IsNext plan past x
    → group_lawful.IsLawfulGroup plan (shared_past plan.layout (x ∷ past))
shared_next plan past x false is before next =
    subst (λ l. group_lawful.IsLawfulGroup plan l)
    (sym (shared_more x.beat x.known x.lanes past plan.layout x.link is))
    (before, in_group plan past x.link (λ p l. IsAllowed p (scene_in_group p l x) x) false is next)
shared_next plan past x true is before next =
    subst (λ l. group_lawful.IsLawfulGroup plan l)
    (sym (shared_same x.beat x.known x.lanes past plan.layout x.link is)) before

pub shared_part : (plan : Plan) (past : List Sighting) → IsLawful plan past
    → group_lawful.IsLawfulGroup plan (shared_past plan.layout past)
shared_part plan [] lawful =
    subst (λ l. group_lawful.IsLawfulGroup plan l) (sym (shared_none plan.layout)) tt
shared_part plan (x ∷ past) lawful =
    shared_next plan past x (is_alone plan.layout x.link) refl (shared_part plan past lawful.0) lawful.1

module _ (plan : Plan) (port : ℕ) (alone : IsTrue (is_alone plan.layout (Port port))) where
  port_next : (past : List Sighting) (beat : Beat) (known : ℕ) (lanes : List ℕ) (link : Link)
      → group_lawful.IsLawfulGroup (port_plan plan) (port_past port past)
      → IsNext plan past (seen_at link beat known lanes)
      → group_lawful.IsLawfulGroup (port_plan plan)
      (port_past port (seen_at link beat known lanes ∷ past))
  port_next past beat known lanes (Master m) before next = before
  port_next past beat known lanes (Port q) before next = go (q == port) refl
    where
      go : (same : Bool) → (q == port) ≡ same → group_lawful.IsLawfulGroup (port_plan plan)
          (port_past port (seen_at (Port q) beat known lanes ∷ past))
      go true is =
          let e = eqb-true q port is in
          let x : Sighting = seen_at (Port q) beat known lanes in
          subst (λ k. group_lawful.IsLawfulGroup (port_plan plan) (port_past k (x ∷ past))) e
          (subst (λ l. group_lawful.IsLawfulGroup (port_plan plan) l) (sym (port_more beat known lanes past q)) (
            subst (λ k. group_lawful.IsLawfulGroup (port_plan plan) (port_past k past)) (sym e) before,
            in_group plan past (Port q) (λ p l. IsAllowed p (scene_in_group p l x) x) true
                (ap (λ k. is_alone plan.layout (Port k)) e ∙ alone) next,
          ))
      go false is =
          subst (λ l. group_lawful.IsLawfulGroup (port_plan plan) l)
          (sym (port_other beat known lanes past q port (eqb-false q port is))) before

  pub port_part : (past : List Sighting) → IsLawful plan past
      → group_lawful.IsLawfulGroup (port_plan plan) (port_past port past)
  port_part [] lawful = tt
  port_part (x ∷ past) lawful = port_next past x.beat x.known x.lanes x.link (port_part past lawful.0) lawful.1

-- ---- and back

-- the beats of each group are lawful
pub record AreLawfulApart (plan : Plan) (past : List Sighting) : Type 0 where
  pub shared : group_lawful.IsLawfulGroup plan (shared_past plan.layout past)
  pub ports : (port : ℕ) → IsTrue (is_alone plan.layout (Port port))
      → group_lawful.IsLawfulGroup (port_plan plan) (port_past port past)

pub apart : (plan : Plan) (past : List Sighting) → IsLawful plan past → AreLawfulApart plan past
apart plan past lawful = record {
  shared = shared_part plan past lawful;
  ports = λ port alone. port_part plan port alone past lawful;
}

ports_before : (plan : Plan) (past : List Sighting) (beat : Beat) (known : ℕ) (lanes : List ℕ) (q port : ℕ)
    → group_lawful.IsLawfulGroup (port_plan plan)
    (port_past port (seen_at (Port q) beat known lanes ∷ past))
    → group_lawful.IsLawfulGroup (port_plan plan) (port_past port past)
ports_before plan past beat known lanes q port after = go (q == port) refl
  where
    go : (same : Bool) → (q == port) ≡ same → group_lawful.IsLawfulGroup (port_plan plan) (port_past port past)
    go true is =
        let e = eqb-true q port is in
        let x : Sighting = seen_at (Port q) beat known lanes in
        let here : group_lawful.IsLawfulGroup (port_plan plan) (x ∷ port_past q past) =
        subst (λ l. group_lawful.IsLawfulGroup (port_plan plan) l) (port_more beat known lanes past q)
        (subst (λ k. group_lawful.IsLawfulGroup (port_plan plan) (port_past k (x ∷ past))) (sym e) after) in
        subst (λ k. group_lawful.IsLawfulGroup (port_plan plan) (port_past k past)) e here.0
    go false is =
        subst (λ l. group_lawful.IsLawfulGroup (port_plan plan) l)
        (port_other beat known lanes past q port (eqb-false q port is)) after

-- what is said of the beats before, and of the beat
before : (plan : Plan) (past : List Sighting) (beat : Beat) (known : ℕ) (lanes : List ℕ) (link : Link) (b : Bool)
    → is_alone plan.layout link ≡ b
    → AreLawfulApart plan (seen_at link beat known lanes ∷ past)
    → AreLawfulApart plan past × IsNext plan past (seen_at link beat known lanes)
before plan past beat known lanes link false is after =
    let x : Sighting = seen_at link beat known lanes in
    let shared : group_lawful.IsLawfulGroup plan (x ∷ shared_past plan.layout past) =
    subst (λ l. group_lawful.IsLawfulGroup plan l)
    (shared_more beat known lanes past plan.layout link is) after.shared in (
      record {
        shared = shared.0;
        ports = λ port alone. subst (λ l. group_lawful.IsLawfulGroup (port_plan plan) l)
            (port_same beat known lanes past plan.layout link port is alone) (after.ports port alone);
      },
      of_group plan past link (λ p l. IsAllowed p (scene_in_group p l x) x) false is shared.1,
    )
before plan past beat known lanes (Master m) true is after = absurd (cc)
before plan past beat known lanes (Port q) true is after =
    let x : Sighting = seen_at (Port q) beat known lanes in
    let here : group_lawful.IsLawfulGroup (port_plan plan) (x ∷ port_past q past) =
    subst (λ l. group_lawful.IsLawfulGroup (port_plan plan) l) (port_more beat known lanes past q)
    (after.ports q is) in (
      record {
        shared = subst (λ l. group_lawful.IsLawfulGroup plan l)
            (shared_same beat known lanes past plan.layout (Port q) is) after.shared;
        ports = λ port alone. ports_before plan past beat known lanes q port (after.ports port alone);
      },
      of_group plan past (Port q) (λ p l. IsAllowed p (scene_in_group p l x) x) true is here.1,
    )

pub together : (plan : Plan) (past : List Sighting) → AreLawfulApart plan past → IsLawful plan past
together plan [] are = tt
together plan (x ∷ past) are =
    let rest = before plan past x.beat x.known x.lanes x.link (is_alone plan.layout x.link) refl are in
    (together plan past rest.0, rest.1)

-- ---- link by link

-- what holds of the links that are judged together, and of each port's link that is judged by itself, holds of each group
pub by_group : (plan : Plan) (past : List Sighting) (P : Plan → List Sighting → Type 0)
    → P plan (shared_past plan.layout past)
    → ((port : ℕ) → IsTrue (is_alone plan.layout (Port port)) → P (port_plan plan) (port_past port past))
    → (link : Link) → P (plan_at plan link) (past_at plan.layout link past)
by_group plan past P shared ports (Master m) = shared
by_group plan past P shared ports (Port p) = go (is_alone plan.layout (Port p)) refl
  where
    go : (b : Bool) → is_alone plan.layout (Port p) ≡ b → P (plan_at plan (Port p)) (past_at plan.layout (Port p) past)
    go false is = of_group plan past (Port p) P false is shared
    go true is = of_group plan past (Port p) P true is (ports p is)

pub at_each : (plan : Plan) (past : List Sighting) → AreLawfulApart plan past → (link : Link)
    → group_lawful.IsLawfulGroup (plan_at plan link) (past_at plan.layout link past)
at_each plan past are = by_group plan past (λ p l. group_lawful.IsLawfulGroup p l) are.shared are.ports

pub from_each : (plan : Plan) (past : List Sighting)
    → ((link : Link) → group_lawful.IsLawfulGroup (plan_at plan link) (past_at plan.layout link past))
    → AreLawfulApart plan past
from_each plan past each = record {
  shared = in_group plan past (Master 0) (λ p l. group_lawful.IsLawfulGroup p l) false refl (each (Master 0));
  ports = λ port alone. in_group plan past (Port port) (λ p l. group_lawful.IsLawfulGroup p l) true alone (each (Port port));
}

-- ---- group by group

pub with_each : (plan : Plan) (past : List Sighting)
    → IsLawful plan past ↔ (group_lawful.IsLawfulGroup plan (shared_past plan.layout past)
    × ((port : ℕ) → IsTrue (is_alone plan.layout (Port port))
    → group_lawful.IsLawfulGroup (port_plan plan) (port_past port past)))
with_each plan past = (
  λ lawful. (shared_part plan past lawful, λ port alone. port_part plan port alone past lawful),
  λ both. together plan past (record { shared = both.0; ports = both.1 }),
)

-- if no port's link is judged by itself, no link is
none_alone : (layout : Layout) (link : Link) → are_apart layout ≡ false → is_alone layout link ≡ false
none_alone layout link none = go (is_alone layout link) refl
  where
    go : (alone : Bool) → is_alone layout link ≡ alone → alone ≡ false
    go true is = let some = apart_from layout link is in absurd (cc)
    go false is = refl

same_past : (layout : Layout) (past : List Sighting) → are_apart layout ≡ false → shared_past layout past ≡ past
same_past layout [] none = refl
same_past layout (x ∷ past) none =
    shared_more x.beat x.known x.lanes past layout x.link (none_alone layout x.link none)
    ∙ ap (λ l. x ∷ l) (same_past layout past none)

pub with_others : (plan : Plan) (past : List Sighting) → are_apart plan.layout ≡ false
    → IsLawful plan past ↔ group_lawful.IsLawfulGroup plan past
with_others plan past none = (
  λ lawful. subst (λ l. group_lawful.IsLawfulGroup plan l) (same_past plan.layout past none)
      (shared_part plan past lawful),
  λ lawful. together plan past (record {
    shared = subst (λ l. group_lawful.IsLawfulGroup plan l) (sym (same_past plan.layout past none)) lawful;
    ports = λ port alone. let shared = none_alone plan.layout (Port port) none in absurd (cc);
  }),
)
