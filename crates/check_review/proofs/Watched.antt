-- Which rows are seen.
use Rattle.std.proofs.Common.{◌≡◌, ℕ, ◌<◌, ◌↔◌, Bool, true, false, ◌&&◌, nat_lt, IsTrue, List, [], ◌∷◌, ◌++◌, length, refl, sym, subst, arith}
use Rattle.std.proofs.lemmas.Bool.Decides.{nat_tests}
use Rattle.check_watch.specs.declared.beat.Link.{Link}
use Rattle.check_watch.specs.declared.beat.Link.TheVariants.{Master, Port}
use Rattle.check_watch.specs.declared.links.Links.{Links}
use Rattle.check_watch.specs.declared.links.Links.TheVariants.{Both, Masters, Ports, Each}
use Rattle.check_sides.specs.Plan.{Layout, Plan, HasLink, IsWatched}
use Rattle.check_turns.specs.Lawful.{IsLawfulInOrder}
use Rattle.check_turns.proofs.Judging.{lawful_before}
use Rattle.check_rows.specs.Row.{SeenRow}
use Rattle.check_review.specs.Order.{are_masters_watched, are_ports_watched, is_watched, sightings_of, watched}

below : (m count : ℕ) → IsTrue (nat_lt m count) → m < count
below m count is = grind (arith, nat_tests)

is_below : (m count : ℕ) → m < count → IsTrue (nat_lt m count)
is_below m count lt = grind (arith, nat_tests)

master_watched : (links : Links) (m count : ℕ) → IsTrue (are_masters_watched links && nat_lt m count)
    ↔ ((m < count) × IsWatched links (Master m))
master_watched Both m count = ((λ h. (below m count h, tt)), λ h. is_below m count h.0)
master_watched Masters m count = ((λ h. (below m count h, tt)), λ h. is_below m count h.0)
master_watched Ports m count = ((λ h. absurd (cc)), λ h. absurd h.1)
master_watched Each m count = ((λ h. (below m count h, tt)), λ h. is_below m count h.0)

port_watched : (links : Links) (p count : ℕ) → IsTrue (are_ports_watched links && nat_lt p count)
    ↔ ((p < count) × IsWatched links (Port p))
port_watched Both p count = ((λ h. (below p count h, tt)), λ h. is_below p count h.0)
port_watched Masters p count = ((λ h. absurd (cc)), λ h. absurd h.1)
port_watched Ports p count = ((λ h. (below p count h, tt)), λ h. is_below p count h.0)
port_watched Each p count = ((λ h. (below p count h, tt)), λ h. is_below p count h.0)

pub watched_is : (layout : Layout) (link : Link) → IsTrue (is_watched layout link)
    ↔ (HasLink layout link × IsWatched layout.links link)
watched_is layout (Master m) = master_watched layout.links m (length layout.owners)
watched_is layout (Port p) = port_watched layout.links p (length layout.ports)

same_answer : {P : Type 0} (a b : Bool) → (IsTrue a ↔ P) → (IsTrue b ↔ P) → a ≡ b
same_answer true true p q = refl
same_answer true false p q = sym (q.1 (p.0 refl))
same_answer false true p q = p.1 (q.0 refl)
same_answer false false p q = refl

-- what a judge of beats answers
pub watches_by : (layout : Layout) (link : Link) (r : Bool)
    → (IsTrue r ↔ (HasLink layout link × IsWatched layout.links link)) → r ≡ is_watched layout link
watches_by layout link r h = same_answer r (is_watched layout link) h (watched_is layout link)

pub seen_one : (layout : Layout) (row : SeenRow) (before : List SeenRow) → is_watched layout row.sighting.link ≡ true
    → sightings_of layout (row ∷ before) ≡ row.sighting ∷ sightings_of layout before
seen_one layout row before is = rw is refl

pub seen_other : (layout : Layout) (row : SeenRow) (before : List SeenRow) → is_watched layout row.sighting.link ≡ false
    → sightings_of layout (row ∷ before) ≡ sightings_of layout before
seen_other layout row before is = rw is refl

pub watched_one : (layout : Layout) (row : SeenRow) (before : List SeenRow) → is_watched layout row.sighting.link ≡ true
    → watched layout (row ∷ before) ≡ row ∷ watched layout before
watched_one layout row before is = rw is refl

pub watched_other : (layout : Layout) (row : SeenRow) (before : List SeenRow) → is_watched layout row.sighting.link ≡ false
    → watched layout (row ∷ before) ≡ watched layout before
watched_other layout row before is = rw is refl

-- ---- a beginning of what is lawful is lawful

drop_first : (plan : Plan) (row : SeenRow) (rest : List SeenRow) (b : Bool) → is_watched plan.layout row.sighting.link ≡ b
    → IsLawfulInOrder plan (sightings_of plan.layout (row ∷ rest)) → IsLawfulInOrder plan (sightings_of plan.layout rest)
drop_first plan row rest true is lawful =
    let all : IsLawfulInOrder plan (row.sighting ∷ sightings_of plan.layout rest) =
    subst (IsLawfulInOrder plan) (seen_one plan.layout row rest is) lawful in lawful_before plan row.sighting (sightings_of plan.layout rest) all
drop_first plan row rest false is lawful = subst (IsLawfulInOrder plan) (seen_other plan.layout row rest is) lawful

pub lawful_rest : (plan : Plan) (after before : List SeenRow) → IsLawfulInOrder plan (sightings_of plan.layout (after ++ before))
    → IsLawfulInOrder plan (sightings_of plan.layout before)
lawful_rest plan [] before lawful = lawful
lawful_rest plan (row ∷ after) before lawful =
    lawful_rest plan after before (drop_first plan row (after ++ before)
    (is_watched plan.layout row.sighting.link) refl lawful)
