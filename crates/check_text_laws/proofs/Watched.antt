-- The beats of each group are at links that its plan has and watches, and the plan is one.
use Rattle.std.proofs.Common.{◌≡◌, ◌∙◌, ℕ, zero, suc, ◌<◌, Bool, true, false, List, [], ◌∷◌, get_or, refl, sym, subst, arith, eqb-true}
use Rattle.std.specs.Prelude.{◌==◌}
use Rattle.std.proofs.lemmas.Bool.{eqb-false}
use Rattle.tl_map.specs.Owner.{IsOf, IsWideSource}
use Rattle.tl_map.specs.Owners.{IsLawfulOwner}
use Rattle.tl_map.specs.declared.owners.Owner.{Owner}
use Rattle.check_watch.specs.declared.beat.Beat.{Beat}
use Rattle.check_watch.specs.declared.beat.Link.{Link}
use Rattle.check_watch.specs.declared.beat.Link.TheVariants.{Master, Port}
use Rattle.check_watch.specs.Plan.{Sighting, seen_at}
use Rattle.check_watch_laws.specs.Crossed as group_crossed
use Rattle.check_sides.specs.Groups.{everybody, is_alone, shared_past, port_plan, port_past}
use Rattle.check_sides.specs.Plan.{Layout, Plan, IsPlan}
use Rattle.check_sides.proofs.Fresh.{shared_none}
use Rattle.check_sides.proofs.Grouping.{in_group_watched, port_more, port_other, shared_more, shared_same}
use Rattle.check_text_laws.specs.Groups.{AreAllWatched, IsAtWatchedLink}

-- ---- everybody

everybody_zero : (one wide : ℕ) → IsOf (everybody ∷ []) one wide → one ≡ 0
everybody_zero zero wide of = refl
everybody_zero (suc one) wide of = absurd of.1

everybody_own : (master source wide : ℕ) → IsWideSource (everybody ∷ []) master source wide → source ≡ wide
everybody_own zero source wide is = omega (arith, is.at)
everybody_own (suc master) source wide is = absurd is

everybody_lawful : IsLawfulOwner everybody
everybody_lawful = record {
  some = omega arith;
  few = omega arith;
  apart = omega arith;
  in_range = omega arith;
}

everybody_each : (k : ℕ) (d : Owner) → k < 1 → IsLawfulOwner (get_or (everybody ∷ []) k d)
everybody_each zero d inside = everybody_lawful
everybody_each (suc k) d inside = absurd (omega (arith, inside))

pub port_is_plan : (plan : Plan) → IsPlan plan → IsPlan (port_plan plan)
port_is_plan plan is = record {
  owners = record {
    masters = omega arith;
    each = everybody_each;
    apart = λ one other wide both. everybody_zero one wide both.of_one ∙ sym (everybody_zero other wide both.of_other);
  };
  wide = λ master source wide. everybody_own master source wide;
  decode = is.decode;
}

-- ---- the links of a group

watched_one : (layout : Layout) (x : Sighting) → is_alone layout x.link ≡ false → IsAtWatchedLink layout x
    → group_crossed.IsWatchedAt layout x
watched_one layout x is at = record {
  link = at.link;
  watched = in_group_watched layout x.link is at.watched;
  lanes = at.lanes;
}

pub shared_watched : (plan : Plan) (past : List Sighting) → AreAllWatched plan.layout past
    → group_crossed.AreWatched plan.layout (shared_past plan.layout past)
shared_watched plan [] are =
    subst (λ l. group_crossed.AreWatched plan.layout l) (sym (shared_none plan.layout)) tt
shared_watched plan (x ∷ past) are = go (is_alone plan.layout x.link) refl (shared_watched plan past are.1)
  where
    go : (b : Bool) → is_alone plan.layout x.link ≡ b
        → group_crossed.AreWatched plan.layout (shared_past plan.layout past)
        → group_crossed.AreWatched plan.layout (shared_past plan.layout (x ∷ past))
    go false is before =
        subst (λ l. group_crossed.AreWatched plan.layout l)
        (sym (shared_more x.beat x.known x.lanes past plan.layout x.link is))
        (watched_one plan.layout x is are.0, before)
    go true is before =
        subst (λ l. group_crossed.AreWatched plan.layout l)
        (sym (shared_same x.beat x.known x.lanes past plan.layout x.link is)) before

module _ (plan : Plan) (port : ℕ) where
  port_next : (past : List Sighting) (beat : Beat) (known : ℕ) (lanes : List ℕ) (link : Link)
      → IsAtWatchedLink plan.layout (seen_at link beat known lanes)
      → group_crossed.AreWatched (port_plan plan).layout (port_past port past)
      → group_crossed.AreWatched (port_plan plan).layout
      (port_past port (seen_at link beat known lanes ∷ past))
  port_next past beat known lanes (Master m) has before = before
  port_next past beat known lanes (Port q) has before = go (q == port) refl
    where
      go : (same : Bool) → (q == port) ≡ same → group_crossed.AreWatched (port_plan plan).layout
          (port_past port (seen_at (Port q) beat known lanes ∷ past))
      go true is =
          let e = eqb-true q port is in
          let x : Sighting = seen_at (Port q) beat known lanes in
          subst (λ k. group_crossed.AreWatched (port_plan plan).layout (port_past k (x ∷ past))) e
          (subst (λ l. group_crossed.AreWatched (port_plan plan).layout l) (sym (port_more beat known lanes past q)) (
            record { link = has.link; watched = tt; lanes = has.lanes },
            subst (λ k. group_crossed.AreWatched (port_plan plan).layout (port_past k past)) (sym e) before,
          ))
      go false is =
          subst (λ l. group_crossed.AreWatched (port_plan plan).layout l)
          (sym (port_other beat known lanes past q port (eqb-false q port is))) before

  pub port_watched : (past : List Sighting) → AreAllWatched plan.layout past
      → group_crossed.AreWatched (port_plan plan).layout (port_past port past)
  port_watched [] are = tt
  port_watched (x ∷ past) are = port_next past x.beat x.known x.lanes x.link are.0 (port_watched past are.1)
