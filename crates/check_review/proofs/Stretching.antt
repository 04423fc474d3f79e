-- The stretches of rows that crossed, one row more and one reset more.
use Rattle.std.proofs.Common.{◌≡◌, ◌∙◌, ℕ, Bool, true, false, if◌then◌else◌, List, [], ◌∷◌, ◌++◌, Some, None, slice_index_or, append_assoc, append-nil, refl, sym, ap, subst}
use Rattle.std.specs.List.{AllByRecursion}
use Rattle.check_memory.specs.declared.slave.Slave.{Slave}
use Rattle.check_flight.specs.PortSlave.{PortSlave}
use Rattle.check_watch.specs.Past.{slave_at}
use Rattle.check_sides.specs.Groups.{shared_past}
use Rattle.check_sides.specs.Plan.{IsPlan, Plan}
use Rattle.check_rows.specs.Row.{SeenRow}
use Rattle.check_coverage.specs.Mirrors.{HaveSameMirrors, mirrors_at, mirrors_of}
use Rattle.check_start.specs.Loads.{SystemPlan}
use Rattle.check_review.specs.Stretches.{AreStretches, Stretches, EndsStretch, GoOnWith, Stretch, sightings_in}
use Rattle.check_review.specs.Order.{sightings_of}
use Rattle.check_review.specs.Told.{AppendsTold, GrowsTold, IsToldOfAll}
use Rattle.check_review.proofs.Mirrored.{after_reset}
use Rattle.check_review.proofs.Telling.{one_told, untraced}

-- ---- one row more

-- a beat is one of the stretch that goes on
abbrev pub course_on : (system : SystemPlan) (before : List SeenRow) (row : SeenRow) → row.is_reset ≡ false
    → Stretches system before → Stretches system (row ∷ before)
course_on system before row beat course =
    let now : Stretch = record { plan = course.now.plan; rows = row ∷ course.now.rows } in
    record {
      now = now;
      ended = course.ended;
      are = subst (λ b. GoOnWith b system row (AreStretches system before) now course.ended) (sym beat)
          (course.now.rows, refl, course.are);
    }

-- a reset ends it
abbrev pub course_reset : (system : SystemPlan) (before : List SeenRow) (row : SeenRow) → row.is_reset ≡ true
    → (course : Stretches system before) (next : Plan) → EndsStretch system course.now next → Stretches system (row ∷ before)
course_reset system before row is course next ends =
    let now : Stretch = record { plan = next; rows = [] } in
    record {
      now = now;
      ended = course.now ∷ course.ended;
      are = subst (λ b. GoOnWith b system row (AreStretches system before) now (course.now ∷ course.ended)) (sym is)
          (course.now, course.ended, refl, refl, course.are, ends);
    }

-- of no rows
abbrev pub course_none : (system : SystemPlan) → Stretches system []
course_none system = record { now = record { plan = system.begins; rows = [] }; ended = []; are = (refl, refl) }

-- ---- what the system is

-- the layout is that of the beginning
layout_after : (is_reset : Bool) (system : SystemPlan) (row : SeenRow) (Before : Stretch → List Stretch → Type 0) (now : Stretch)
    (ended : List Stretch)
    → ((last : Stretch) (others : List Stretch) → Before last others → last.plan.layout ≡ system.begins.layout)
    → GoOnWith is_reset system row Before now ended → now.plan.layout ≡ system.begins.layout
layout_after false system row Before now ended rest on = rest (record now { rows = on.0 }) ended on.2
layout_after true system row Before now ended rest on =
    ap (λ (p : Plan). p.layout) on.5.goes_on ∙ rest on.0 on.1 on.4

pub same_layout : (system : SystemPlan) (crossed : List SeenRow) (now : Stretch) (ended : List Stretch)
    → AreStretches system crossed now ended → now.plan.layout ≡ system.begins.layout
same_layout system [] now ended are = ap (λ (s : Stretch). s.plan.layout) are.0
same_layout system (row ∷ before) now ended are =
    layout_after row.is_reset system row (AreStretches system before) now ended
    (λ last others is. same_layout system before last others is) are

-- what is loaded is what a slave held at the beginning
loaded_from : (loads : Bool) (slave : PortSlave) (kept : Slave)
    → (if loads then Some slave.kept else None) ≡ Some kept → kept ≡ slave.kept
loaded_from true slave kept is = cc
loaded_from false slave kept is = absurd (cc)

-- after a reset memories are seen from where they were at the beginning, if they were before it
ends_there : (system : SystemPlan) (last : Stretch) (next : Plan) → EndsStretch system last next
    → HaveSameMirrors system.begins last.plan → HaveSameMirrors system.begins next
ends_there system last next ends same port =
    let past = shared_past last.plan.layout (sightings_in last) in
    ap (λ (p : Plan). mirrors_at p port) ends.goes_on
    ∙ after_reset last.plan past ends.loaded ends.resets port ends.is.shared
    (λ kept is. ap mirrors_of (loaded_from (slice_index_or system.loads port false) (slave_at system.begins.resets port) kept
    (sym (ends.loads port) ∙ is)) ∙ sym (same port))
    ∙ same port

-- memories are always seen from there
mirrors_after : (is_reset : Bool) (system : SystemPlan) (row : SeenRow) (Before : Stretch → List Stretch → Type 0)
    (now : Stretch) (ended : List Stretch)
    → ((last : Stretch) (others : List Stretch) → Before last others → HaveSameMirrors system.begins last.plan)
    → GoOnWith is_reset system row Before now ended → HaveSameMirrors system.begins now.plan
mirrors_after false system row Before now ended rest on = rest (record now { rows = on.0 }) ended on.2
mirrors_after true system row Before now ended rest on =
    ends_there system on.0 now.plan on.5 (rest on.0 on.1 on.4)

pub same_mirrors : (system : SystemPlan) (crossed : List SeenRow) (now : Stretch) (ended : List Stretch)
    → AreStretches system crossed now ended → HaveSameMirrors system.begins now.plan
same_mirrors system [] now ended are = λ port. ap (λ (s : Stretch). mirrors_at s.plan port) are.0
same_mirrors system (row ∷ before) now ended are =
    mirrors_after row.is_reset system row (AreStretches system before) now ended
    (λ last others is. same_mirrors system before last others is) are

-- ---- what is told

pub grows_nothing : (trace : Bool) (all : List Stretch) (text : List ℕ) → GrowsTold trace all all text text
grows_nothing trace all text = record {
  more = [];
  grown = sym (append-nil text);
  told = λ so_far is. subst (IsToldOfAll trace all) (sym (append-nil so_far)) is;
}

pub grows_then : (trace : Bool) (past mid now : List Stretch) (old between new : List ℕ)
    → GrowsTold trace past mid old between → GrowsTold trace mid now between new → GrowsTold trace past now old new
grows_then trace past mid now old between new one two = record {
  more = one.more ++ two.more;
  grown = two.grown ∙ ap (λ l. l ++ two.more) one.grown ∙ append_assoc old one.more two.more;
  told = λ so_far is. subst (IsToldOfAll trace now) (append_assoc so_far one.more two.more)
      (two.told (so_far ++ one.more) (one.told so_far is));
}

-- what is told of the stretch that goes on is told of all
pub grows_on : (trace : Bool) (plan : Plan) (before after : List SeenRow) (ended : List Stretch) (old new : List ℕ)
    → AppendsTold trace plan (sightings_of plan.layout before) (sightings_of plan.layout after) old new
    → GrowsTold trace (record { plan = plan; rows = before } ∷ ended) (record { plan = plan; rows = after } ∷ ended) old new
grows_on trace plan before after ended old new one = record {
  more = one.more;
  grown = one.grown;
  told = λ so_far is. (
    is.0,
    is.1 ++ one.more,
    ap (λ l. l ++ one.more) is.2 ∙ append_assoc is.0 is.1 one.more,
    is.3,
    one.told is.1 is.4,
  );
}

-- nothing is told of a reset
pub grows_no_more : (trace : Bool) (plan : Plan) (all : List Stretch) (text : List ℕ)
    → GrowsTold trace all (record { plan = plan; rows = [] } ∷ all) text text
grows_no_more trace plan all text = record {
  more = [];
  grown = sym (append-nil text);
  told = λ so_far is. (so_far, [], refl, is, refl);
}

-- ---- one text is told

pub one_told_of_all : (trace : Bool) (all : List Stretch) (text other : List ℕ)
    → AllByRecursion (λ stretch. IsPlan stretch.plan) all → IsToldOfAll trace all text → IsToldOfAll trace all other
    → text ≡ other
one_told_of_all trace [] text other are one two = one ∙ sym two
one_told_of_all trace (stretch ∷ ended) text other are one two =
    let so_far : one.0 ≡ two.0 = one_told_of_all trace ended one.0 two.0 are.1 one.3 two.3 in
    let more : one.1 ≡ two.1 =
    one_told trace stretch.plan (sightings_in stretch) one.1 two.1 are.0 one.4 two.4 in
    one.2 ∙ (λ i. so_far i ++ more i) ∙ sym two.2

pub all_untraced : (all : List Stretch) (text : List ℕ) → IsToldOfAll false all text → text ≡ []
all_untraced [] text is = is
all_untraced (stretch ∷ ended) text is =
    let so_far : is.0 ≡ [] = all_untraced ended is.0 is.3 in
    let more : is.1 ≡ [] = untraced stretch.plan (sightings_in stretch) is.1 is.4 in
    is.2 ∙ (λ i. so_far i ++ more i)
