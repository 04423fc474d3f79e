-- What is kept after a reset.
use Rattle.std.proofs.Common.{◌≡◌, ◌∙◌, Bool, true, List, [], ◌∷◌, ◌++◌, ℕ, IfSome, IsTrue, Option, refl, sym, subst}
use Rattle.check_memory.specs.declared.slave.Slave.{Slave}
use Rattle.check_flight.specs.PortSlave.{PortSlave}
use Rattle.check_sides.specs.Groups.{are_apart}
use Rattle.check_sides.specs.Plan.{Layout, Plan}
use Rattle.check_sides.specs.Reset.{IsReset}
use Rattle.check_turns.specs.View.{KeepsOrdered}
use Rattle.check_rows.specs.Row.{SeenRow}
use Rattle.check_unanswered.specs.View.{Holds}
use Rattle.check_coverage.specs.Bins.{bins}
use Rattle.check_coverage.specs.Mirrors.{HaveSameMirrors}
use Rattle.check_coverage.specs.View.{Covers}
use Rattle.check_bins.specs.declared.bin.Bin.{Bin}
use Rattle.check_start.specs.Loads.{AreLoads, AreLoadsOf, SystemPlan}
use Rattle.check_review.specs.Stretches.{Stretches, EndsStretch, bins_in, sightings_in, stretches, watched_in}
use Rattle.check_review.specs.Times.{waits_after}
use Rattle.check_review.specs.View.{KeepsOn, KeptIn}
use Rattle.check_review.specs.declared.tally.Tally.{Tally}
use Rattle.check_review.proofs.Stretching.{course_reset, grows_no_more, same_layout, same_mirrors}

-- what each part of a judge keeps is reset
pub record IsResetTally (plan : Plan) (rows : List SeenRow) (earlier : List Bin) (old new : Tally)
    (loaded own : List (Option Slave)) : Type 0 where
  pub made : loaded ≡ old.loads
  pub own_made : IsTrue (are_apart old.watch.layout) → own ≡ old.loads
  pub loads : new.loads ≡ old.loads
  pub requests : new.requests ≡ old.requests
  pub answered : new.answered ≡ old.answered
  pub pending : (later : Plan) → later.layout ≡ plan.layout → IfSome old.pending (Holds plan rows)
      → IfSome new.pending (Holds later [])
  pub covers : (later : Plan) → HaveSameMirrors plan later → IfSome old.coverage (Covers plan earlier rows)
      → IfSome new.coverage (Covers later (bins plan rows ++ earlier) [])
  pub waits : (within : Option ℕ) (later : Plan) → old.waits ≡ waits_after within plan rows
      → new.waits ≡ waits_after within later []

pub keeps_after_reset : (system : SystemPlan) (before : List SeenRow) (course : Stretches system before) (row : SeenRow) (trace : Bool)
    (text : List ℕ) (old new : Tally) (loaded own : List (Option Slave)) (resets slaves : List PortSlave)
    → row.is_reset ≡ true → KeptIn system before course old
    → IsResetTally course.now.plan (watched_in course.now) (bins_in course.ended) old new loaded own
    → IsReset course.now.plan (sightings_in course.now) loaded own resets slaves
    → KeepsOrdered (record course.now.plan { resets = resets; own = slaves }) [] new.watch
    → KeepsOn system before course (row ∷ before) trace new text text
keeps_after_reset system before course row trace text old new loaded own resets slaves is kept reset left keeps =
    let plan : Plan = course.now.plan in
    let later : Plan = record plan { resets = resets; own = slaves } in
    let layout : old.watch.layout ≡ system.begins.layout =
    kept.tallied.keeps.suits.layout ∙ same_layout system before course.now course.ended course.are in
    let apart : IsTrue (are_apart system.begins.layout) → IsTrue (are_apart old.watch.layout) =
    λ yes. subst (λ (l : Layout). IsTrue (are_apart l)) (sym layout) yes in
    let ends : EndsStretch system course.now later = record {
      lawful = kept.tallied.keeps.lawful;
      loaded = loaded;
      own_loaded = own;
      resets = resets;
      own = slaves;
      loads = subst (AreLoads system.loads system.begins.resets) (sym reset.made) kept.tallied.loads.shared;
      own_loads = λ yes. subst (AreLoads system.loads system.begins.own) (sym (reset.own_made (apart yes)))
          (kept.tallied.loads.own yes);
      is = left;
      goes_on = refl;
      plan = keeps.suits.lawful;
    } in
    let next = course_reset system before row is course later ends in
    let mirrors : HaveSameMirrors plan later = λ port.
    same_mirrors system (row ∷ before) next.now next.ended next.are port
    ∙ sym (same_mirrors system before course.now course.ended course.are port) in
    record {
      next = next;
      kept = record {
        tallied = record {
          keeps = keeps;
          loads = subst (AreLoadsOf system) (sym reset.loads) kept.tallied.loads;
          requests = reset.requests ∙ kept.tallied.requests;
          answered = reset.answered ∙ kept.tallied.answered;
          covers = reset.covers later mirrors kept.tallied.covers;
        };
        pending = reset.pending later refl kept.pending;
        waits = reset.waits system.within later kept.waits;
      };
      told = grows_no_more trace later (stretches course) text;
    }
