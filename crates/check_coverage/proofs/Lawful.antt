-- What a lawful row has: a size within the limit, and a source of its link.
use Rattle.std.proofs.Common.{◌≡◌, ℕ, Bool, true, false, List, ◌∷◌, Option, Some, refl, ap, sym, subst}
use Rattle.std.specs.Prelude.{◌↔◌, if◌then◌else◌}
use Rattle.tl_map.specs.Owner.{IsWideSource}
use Rattle.tl_map.specs.declared.owners.Owner.{Owner}
use Rattle.check_watch.specs.declared.beat.Beat.{Beat}
use Rattle.check_watch.specs.declared.beat.Beat.TheVariants.{A, D}
use Rattle.check_watch.specs.declared.beat.Link.{Link}
use Rattle.check_watch.specs.declared.beat.Link.TheVariants.{Master, Port}
use Rattle.check_watch.specs.Lawful.{IsAllowedBeat}
use Rattle.check_watch.specs.Plan.{HasSource, Layout, Plan, Sighting, is_apart, source_of, wide_of}
use Rattle.check_watch.specs.Scene.{Scene}
use Rattle.check_watch.specs.declared.links.Links.{Links}
use Rattle.check_watch.specs.declared.links.Links.TheVariants.{Both, Masters, Ports, Each}
use Rattle.check_sides.specs.Groups.{is_alone, is_port_alone, plan_at, port_plan}
use Rattle.check_sides.specs.Lawful.{IsLawful, scene}
use Rattle.check_sides.specs.Plan.{IsPlan}
use Rattle.check_coverage.specs.Flights.{HasSize, is_counted, wide_at}

allowed_size : (plan : Plan) (here : Scene) (x : Sighting) (beat : Beat) → IsAllowedBeat plan here x beat → HasSize beat
allowed_size plan here x (A beat) allowed = allowed.fits.formed.in_limit
allowed_size plan here x (D beat) allowed = allowed.fits.formed.in_limit

allowed_source : (plan : Plan) (here : Scene) (x : Sighting) (beat : Beat) → IsAllowedBeat plan here x beat
    → HasSource plan.layout x.link (source_of beat)
allowed_source plan here x (A beat) allowed = allowed.source
allowed_source plan here x (D beat) allowed = allowed.source

pub lawful_size : (plan : Plan) (past : List Sighting) (x : Sighting) → IsLawful plan (x ∷ past) → HasSize x.beat
lawful_size plan past x lawful = allowed_size (plan_at plan x.link) (scene plan past x) x x.beat lawful.1

-- where messages of a link are counted, it is not judged by itself
pub counted_together : (layout : Layout) (link : Link) → is_counted layout.links link ≡ true
    → is_alone layout link ≡ false
counted_together layout (Master m) is = refl
counted_together layout (Port p) is = go layout.links is
  where
    go : (links : Links) → is_counted links (Port p) ≡ true → is_port_alone links (is_apart layout p) ≡ false
    go Both is = absurd (cc)
    go Masters is = refl
    go Ports is = refl
    go Each is = absurd (cc)

module _ (plan : Plan) (past : List Sighting) (x : Sighting) (is_plan : IsPlan plan) (lawful : IsLawful plan (x ∷ past))
    (counted : is_counted plan.layout.links x.link ≡ true) where
  has_source : HasSource plan.layout x.link (source_of x.beat)
  has_source = subst (λ (p : Plan). HasSource p.layout x.link (source_of x.beat))
      (ap (λ (b : Bool). if b then port_plan plan else plan)
      (counted_together plan.layout x.link counted))
      (allowed_source (plan_at plan x.link) (scene plan past x) x x.beat lawful.1)

  -- a master's link has the wide source of the beat
  wide_of_master : (m wide : ℕ) → IsWideSource plan.layout.owners m (source_of x.beat) wide
      → IsWideSource plan.layout.owners m (source_of x.beat) (plan.wide m (source_of x.beat))
  wide_of_master m wide is =
      subst (λ w. IsWideSource plan.layout.owners m (source_of x.beat) w) (sym (is_plan.wide m (source_of x.beat) wide is)) is

  pub found_wide : (owners : List Owner) (result : Option ℕ) → owners ≡ plan.layout.owners
      → ((number wide : ℕ) → x.link ≡ Master number
      → (result ≡ Some wide) ↔ IsWideSource owners number (source_of x.beat) wide)
      → ((number : ℕ) → x.link ≡ Port number → result ≡ Some (source_of x.beat)) → result ≡ Some (wide_at plan x)
  found_wide owners result same of_master of_port = go x.link refl has_source
    where
      go : (link : Link) → x.link ≡ link → HasSource plan.layout link (source_of x.beat)
          → result ≡ Some (wide_of plan link (source_of x.beat))
      go (Master m) is has =
          (of_master m (plan.wide m (source_of x.beat)) is).1
          (subst (λ o. IsWideSource o m (source_of x.beat) (plan.wide m (source_of x.beat))) (sym same)
          (wide_of_master m has.0 has.1))
      go (Port p) is has = of_port p is
