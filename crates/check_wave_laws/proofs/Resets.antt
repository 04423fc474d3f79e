-- Resets of the whole system: whether one begins at a time, by the edges below it.
use Rattle.std.proofs.Common.{◌≡◌, ◌∙◌, ℕ, ◌<◌, ◌≤◌, ◌⊎◌, inl, inr, Bool, true, false, cond, not, List, Option, None, Some, ap, arith, refl, subst, sym, ◌&&◌, option_map}
use Rattle.std.specs.Prelude.{⊤, ◌↔◌}
use Rattle.std.proofs.lemmas.Bool.{and_from, and_parts, both_ways, cases_lt, not-true, not_from_false}
use Rattle.std.proofs.lemmas.Option.{same_Some}
use Rattle.check_samples.specs.Digits.{bits_of}
use Rattle.check_samples.specs.Domain.{Watched}
use Rattle.check_samples.specs.EdgeFault.{some_crossed}
use Rattle.check_samples.specs.Rows.{is_early, is_late}
use Rattle.check_wave_laws.specs.Sampled.{AllWatched, HasEdge, StandsBelow, IsJoinedUntil, Wave, always, is_whole, values_before, values_until, IsSampledReset, WasActive, system_active_in}
use Rattle.check_samples.specs.Resets.{begins, is_reset_due, unwatched_reset, watched_reset}
use Rattle.check_samples.specs.declared.reset.SystemReset.{SystemReset}
use Rattle.check_samples.specs.declared.reset.WatchedReset.{WatchedReset}
use Rattle.check_wave_laws.proofs.Present.{Ends, below-less, crossed-gap, gap-crossed, quiet-edge, rising, ticks-at}

-- what is kept of the system's reset is so of the edges below a time
abbrev pub ResetIs : Wave → Option ℕ → Option SystemReset → Option WatchedReset → Type 0
ResetIs wave below None None = ⊤
ResetIs wave below None (Some one) = ⊥
ResetIs wave below (Some system) None = ⊥
ResetIs wave below (Some system) (Some one) =
    (one.system ≡ system) × ((one.was_active ≡ true) ↔ WasActive wave system below)

-- below the present time, if it is known
abbrev pub ResetSoFar : Wave → Option ℕ → Option WatchedReset → Type 0
ResetSoFar wave None resets = resets ≡ option_map unwatched_reset wave.probes.resets
ResetSoFar wave (Some time) resets = ResetIs wave (Some time) wave.probes.resets resets

-- no edge is below the first time
module _ (wave : Wave) (next : Option ℕ) (ends : Ends wave None next) where
  active-none : (system : SystemReset) → (false ≡ true) ↔ WasActive wave system next
  active-none system = (
    λ e. absurd (both_ways false refl e),
    λ was. absurd (quiet-edge wave None next ends system.clock (system_active_in system) next was.edge tt was.edge.before),
  )

  pub reset-none : (resets : Option SystemReset) → ResetIs wave next resets (option_map unwatched_reset resets)
  reset-none None = tt
  reset-none (Some system) = (refl, active-none system)

module _ (wave : Wave) (time : ℕ) (next : Option ℕ) (ends : Ends wave (Some time) next)
    (below : StandsBelow next time) (system : SystemReset) where
  -- an edge below the next time is at most at the present one
  until-time : (so : List (List ℕ) → Bool) (one : HasEdge wave system.clock so next) → one.time ≤ time
  until-time so one = go (cases_lt time one.time)
    where
      go : (time < one.time) ⊎ (one.time ≤ time) → one.time ≤ time
      go (inl later) = absurd (quiet-edge wave (Some time) next ends system.clock so next one later one.before)
      go (inr order) = order

  -- the clock ticks at the present time
  edge-here : (so : List (List ℕ) → Bool) → ticks-at wave system.clock time ≡ true → so (values_before wave time) ≡ true
      → (one : HasEdge wave system.clock so next) × (one.time ≡ time)
  edge-here so up was =
      let both = and_parts (is_early system.clock.edge (bits_of (values_before wave time) system.clock.tap))
      (is_late system.clock.edge (bits_of (values_until wave time) system.clock.tap)) up in
      (record { time = time; before = below; early = both.0; late = both.1; was = was }, refl)

  active-up : ticks-at wave system.clock time ≡ true
      → (system_active_in system (values_before wave time) ≡ true) ↔ WasActive wave system next
  active-up up = (to, back)
    where
      to : system_active_in system (values_before wave time) ≡ true → WasActive wave system next
      to active =
          let it = edge-here (system_active_in system) up active in
          record { edge = it.0; last = λ other. omega (arith, until-time always other, it.1) }

      back : WasActive wave system next → system_active_in system (values_before wave time) ≡ true
      back was =
          let it = edge-here always up refl in
          let same : was.edge.time ≡ time =
          omega (arith, was.last it.0, it.1, until-time (system_active_in system) was.edge) in
          subst (λ (n : ℕ). system_active_in system (values_before wave n) ≡ true) same was.edge.was

  -- it does not: then an edge below the next time is below the present one
  earlier : ticks-at wave system.clock time ≡ false → (so : List (List ℕ) → Bool)
      (one : HasEdge wave system.clock so next) → one.time < time
  earlier still so one = go (cases_lt one.time time)
    where
      go : (one.time < time) ⊎ (time ≤ one.time) → one.time < time
      go (inl less) = less
      go (inr from) =
          let same : one.time ≡ time = omega (arith, from, until-time so one) in
          absurd (both_ways (ticks-at wave system.clock time) still
          (subst (λ (n : ℕ). ticks-at wave system.clock n ≡ true) same (rising wave system.clock so next one)))

  active-same : ticks-at wave system.clock time ≡ false → (flag : Bool)
      → (flag ≡ true) ↔ WasActive wave system (Some time) → (flag ≡ true) ↔ WasActive wave system next
  active-same still flag know = (λ e. to (know.0 e), λ was. know.1 (back was))
    where
      to : WasActive wave system (Some time) → WasActive wave system next
      to was = record {
        edge = record {
          time = was.edge.time;
          before = below-less next was.edge.time time was.edge.before below;
          early = was.edge.early;
          late = was.edge.late;
          was = was.edge.was;
        };
        last = λ other. was.last (record {
          time = other.time;
          before = earlier still always other;
          early = other.early;
          late = other.late;
          was = other.was;
        });
      }

      back : WasActive wave system next → WasActive wave system (Some time)
      back was = record {
        edge = record {
          time = was.edge.time;
          before = earlier still (system_active_in system) was.edge;
          early = was.edge.early;
          late = was.edge.late;
          was = was.edge.was;
        };
        last = λ other. was.last (record {
          time = other.time;
          before = below-less next other.time time other.before below;
          early = other.early;
          late = other.late;
          was = other.was;
        });
      }

  active-more : (flag : Bool) → (flag ≡ true) ↔ WasActive wave system (Some time) → (t : Bool)
      → ticks-at wave system.clock time ≡ t
      → (cond t (system_active_in system (values_before wave time)) flag ≡ true) ↔ WasActive wave system next
  active-more flag know true up = active-up up
  active-more flag know false still = active-same still flag know

-- what is kept after the present time
module _ (wave : Wave) (time : ℕ) (next : Option ℕ) (ends : Ends wave (Some time) next)
    (below : StandsBelow next time) where
  pub reset-more : (resets : Option SystemReset) (watched : Option WatchedReset) → ResetIs wave (Some time) resets watched
      → ResetIs wave next resets
      (option_map (watched_reset (values_before wave time) (values_until wave time)) watched)
  reset-more None None is = tt
  reset-more None (Some one) is = absurd is
  reset-more (Some system) None is = absurd is
  reset-more (Some system) (Some one) is = (
    is.0,
    subst (λ (s : SystemReset). (cond (ticks-at wave s.clock time) (system_active_in s (values_before wave time))
        one.was_active ≡ true) ↔ WasActive wave system next) (sym is.0)
        (active-more wave time next ends below system one.was_active is.1 (ticks-at wave system.clock time) refl),
  )

-- ---- a reset's row is due exactly if the system is reset

module _ (wave : Wave) (time : ℕ) (watched : List Watched)
    (are : AllWatched wave (Some time) 0 wave.probes.domains watched) where
  -- it begins, by what is known of the system's reset
  abbrev begins-by : SystemReset → Bool → Bool
  begins-by system was_active =
      ticks-at wave system.clock time && (system_active_in system (values_before wave time) && not was_active)

  begins-same : (system : SystemReset) (one : WatchedReset) → one.system ≡ system
      → begins (values_before wave time) (values_until wave time) one ≡ begins-by system one.was_active
  begins-same system one is = ap (λ (s : SystemReset). begins-by s one.was_active) is

  due-one : (system : SystemReset) (was_active : Bool) → wave.probes.resets ≡ Some system
      → (was_active ≡ true) ↔ WasActive wave system (Some time)
      → (begins-by system was_active && some_crossed watched) ≡ true → IsJoinedUntil wave time
      → is_whole wave.cut time ≡ true → IsSampledReset wave time
  due-one system was_active told know due joined whole =
      let both = and_parts (begins-by system was_active) (some_crossed watched) due in
      let two = and_parts (ticks-at wave system.clock time)
      (system_active_in system (values_before wave time) && not was_active) both.0 in
      let active = and_parts (system_active_in system (values_before wave time)) (not was_active) two.1 in
      let clock = and_parts (is_early system.clock.edge (bits_of (values_before wave time) system.clock.tap))
      (is_late system.clock.edge (bits_of (values_until wave time) system.clock.tap)) two.0 in
      record {
        system = system;
        told = told;
        early = clock.0;
        late = clock.1;
        active = active.0;
        begins = λ was. both_ways was_active (not-true was_active active.1) (know.1 was);
        crossed = crossed-gap wave (Some time) watched are both.1;
        joined = joined;
        whole = whole;
      }

  reset-due : (is : IsSampledReset wave time) (was_active : Bool)
      → (was_active ≡ true) ↔ WasActive wave is.system (Some time)
      → (begins-by is.system was_active && some_crossed watched) ≡ true
  reset-due is was_active know =
      and_from (begins-by is.system was_active) (some_crossed watched)
      (and_from (ticks-at wave is.system.clock time)
      (system_active_in is.system (values_before wave time) && not was_active)
      (and_from (is_early is.system.clock.edge (bits_of (values_before wave time) is.system.clock.tap))
      (is_late is.system.clock.edge (bits_of (values_until wave time) is.system.clock.tap)) is.early is.late)
      (and_from (system_active_in is.system (values_before wave time)) (not was_active) is.active
      (not_from_false was_active (go was_active refl))))
      (gap-crossed wave (Some time) watched are is.crossed)
    where
      go : (flag : Bool) → was_active ≡ flag → was_active ≡ false
      go true e = absurd (is.begins (know.0 e))
      go false e = e

  due-by : (told : Option SystemReset) → wave.probes.resets ≡ told → (resets : Option WatchedReset)
      → ResetIs wave (Some time) told resets → IsJoinedUntil wave time → is_whole wave.cut time ≡ true
      → (is_reset_due (values_before wave time) (values_until wave time) watched resets ≡ true)
      ↔ IsSampledReset wave time
  due-by None told (Some one) is joined whole = absurd is
  due-by (Some system) told None is joined whole = absurd is
  due-by None told None is joined whole = (
    λ e. absurd (both_ways false refl e),
    λ reset. let none : ◌≡◌ {A = Option SystemReset} None (Some reset.system) = sym told ∙ reset.told in absurd (cc),
  )
  due-by (Some system) told (Some one) is joined whole = (
    λ due. due-one system one.was_active told is.1
        (sym (ap (λ (t : Bool). t && some_crossed watched) (begins-same system one is.0)) ∙ due) joined whole,
    λ reset.
        let same : system ≡ reset.system = same_Some system reset.system (sym told ∙ reset.told) in
        ap (λ (t : Bool). t && some_crossed watched) (begins-same reset.system one (is.0 ∙ same))
        ∙ reset-due reset one.was_active
        (subst (λ (s : SystemReset). (one.was_active ≡ true) ↔ WasActive wave s (Some time)) same is.1),
  )

  pub due-is : (resets : Option WatchedReset) → ResetIs wave (Some time) wave.probes.resets resets
      → IsJoinedUntil wave time → is_whole wave.cut time ≡ true
      → (is_reset_due (values_before wave time) (values_until wave time) watched resets ≡ true)
      ↔ IsSampledReset wave time
  due-is resets is joined whole = due-by wave.probes.resets refl resets is joined whole
