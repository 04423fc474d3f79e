-- At a slave whose order is known, requests take effect right after they are accepted, or right before they are answered.
-- These moments of a slave, and which requests it has then.
use Rattle.std.proofs.Common.{◌≡◌, ◌∙◌, ⊎_elim, ℕ, Bool, true, false, if◌then◌else◌, List, [], ◌∷◌, ◌++◌, Option, Some, None, refl, ap, sym, subst}
use Rattle.std.specs.Prelude.{◌==◌, ◌≢◌}
use Rattle.std.proofs.lemmas.Bool.{cases_eq, eq-eqb, ne_eqb}
use Rattle.tl_types.specs.Request.{Request}
use Rattle.check_cells.specs.Sent.{Sent}
use Rattle.check_cells.specs.Pattern.{Pattern}
use Rattle.check_contests.specs.Moments.{SlaveMoment, Course, AreBytes, IsCarried, course_with}
use Rattle.check_contests.specs.Moments.SlaveMoment.{Accepts as SlaveAccepts, TakesEffect, Answers as SlaveAnswers}
use Rattle.check_contests.specs.Moments.Course.{Idle, Waiting, Served}
use Rattle.check_contests.proofs.Courses.{course-here, course-there}
use Rattle.check_memory.specs.Laws.{IsLawfulAsk}
use Rattle.check_memory.specs.declared.slave.Slave.{Slave}
use Rattle.check_memory.specs.declared.slave.Slave.TheVariants.{Memory, Device}
use Rattle.check_flight.specs.declared.order.Order.{Order}
use Rattle.check_flight.specs.declared.order.Order.TheVariants.{Accept, Reply, Any}
use Rattle.check_watch_laws.specs.Memories.{with_source, entries_of}
use Rattle.check_watch_laws.specs.Moments.{Act, RequestMoment}
use Rattle.check_watch_laws.specs.Moments.Act.{Accepts, Answers}
use Rattle.check_order_laws.proofs.InTurn.{open_then, open_there}

-- ---- moments of the slave

abbrev pub with_effect : Order → Act → ℕ → Sent → List SlaveMoment
with_effect Accept Accepts wide ask = SlaveAccepts wide ask ∷ TakesEffect wide ∷ []
with_effect Accept Answers wide ask = SlaveAnswers wide ∷ []
with_effect Reply Accepts wide ask = SlaveAccepts wide ask ∷ []
with_effect Reply Answers wide ask = TakesEffect wide ∷ SlaveAnswers wide ∷ []
with_effect Any act wide ask = []

abbrev pub with_effects : Order → List RequestMoment → List SlaveMoment
with_effects order [] = []
with_effects order (moment ∷ moments) =
    with_effect order moment.act moment.wide moment.sent ++ with_effects order moments

-- ---- requests as messages carry them

pub record IsCarriedAsk (ask : Request) : Type 0 where
  pub lawful : IsLawfulAsk ask
  pub bytes : AreBytes ask.bytes

abbrev pub CarriedBy : Act → Sent → Type 0
CarriedBy Accepts ask = IsCarriedAsk ask.ask
CarriedBy Answers ask = Unit {0}

abbrev pub AreCarried : List RequestMoment → Type 0
AreCarried [] = Unit {0}
AreCarried (moment ∷ moments) = CarriedBy moment.act moment.sent × AreCarried moments

pub carried_at : (slave : Slave) (ask : Request) → IsCarriedAsk ask → IsCarried slave ask
carried_at (Memory memory) ask is = record { lawful = is.lawful; bytes = λ clears. is.bytes }
carried_at Device ask is = record { lawful = is.lawful; bytes = tt }

-- ---- the requests of the slave

-- a request that is open has taken effect if the order is `Accept`, and waits if it is `Reply`
abbrev pub HasCourse : Order → Option Sent → Course → Type 0
HasCourse order None course = course ≡ Idle
HasCourse Accept (Some ask) course = (reply : Pattern) × (course ≡ Served ask reply)
HasCourse Reply (Some ask) course = course ≡ Waiting ask
HasCourse Any (Some ask) course = ⊥

abbrev pub HaveCourses : Order → (ℕ → Option Sent) → (ℕ → Course) → Type 0
HaveCourses order held course = (wide : ℕ) → HasCourse order (held wide) (course wide)

pub idle_at : (order : Order) (held : Option Sent) (course : Course) → HasCourse order held course → held ≡ None
    → course ≡ Idle
idle_at order None course has is = has
idle_at order (Some ask) course has is = cc

pub served_at : (held : Option Sent) (course : Course) (ask : Sent) → HasCourse Accept held course
    → held ≡ Some ask → (reply : Pattern) × (course ≡ Served ask reply)
served_at None course ask has is = cc
served_at (Some first) course ask has is =
    let same : first ≡ ask = cc in (has.0, has.1 ∙ ap (λ r. Served r has.0) same)

pub waiting_at : (held : Option Sent) (course : Course) (ask : Sent) → HasCourse Reply held course
    → held ≡ Some ask → course ≡ Waiting ask
waiting_at None course ask has is = cc
waiting_at (Some first) course ask has is = let same : first ≡ ask = cc in has ∙ ap (λ r. Waiting r) same

-- one of them is another one then, and what is open is that
pub courses_then : (order : Order) (held : ℕ → Option Sent) (course : ℕ → Course) (moment : RequestMoment) (next : Course)
    → HaveCourses order held course
    → HasCourse order (open_then held moment moment.wide) next
    → HaveCourses order (open_then held moment) (course_with course moment.wide next)
courses_then order held course moment next all here wide = ⊎_elim
    (λ (same : wide ≡ moment.wide).
    subst (λ w. HasCourse order (open_then held moment w) (course_with course moment.wide next w)) (sym same)
    (subst (λ c. HasCourse order (open_then held moment moment.wide) c)
    (sym (course-here course moment.wide next)) here))
    (λ (apart : wide ≢ moment.wide).
    subst (λ o. HasCourse order o (course_with course moment.wide next wide))
    (sym (open_there held moment wide apart))
    (subst (λ c. HasCourse order (held wide) c) (sym (course-there course moment.wide next wide apart)) (all wide)))
    (cases_eq wide moment.wide)

-- the same where a course is written twice
pub courses_over : (order : Order) (held : ℕ → Option Sent) (course : ℕ → Course) (wide : ℕ) (first next : Course)
    → HaveCourses order held (course_with course wide next)
    → HaveCourses order held (course_with (course_with course wide first) wide next)
courses_over order held course wide first next all other =
    subst (λ c. HasCourse order (held other) c) (sym (go (other == wide))) (all other)
  where
    go : (b : Bool) → (if b then next else (if b then first else course other)) ≡ (if b then next else course other)
    go true = refl
    go false = refl

-- ---- entries of one source

abbrev pub one_entry : ℕ → Sent → Pattern → Sent × Pattern
one_entry wide ask reply = (with_source wide ask, record reply { source = wide })

pub entry_own : (wide : ℕ) (ask : Sent) (reply : Pattern) (more : List (Sent × Pattern))
    → entries_of wide (one_entry wide ask reply ∷ more) ≡ one_entry wide ask reply ∷ entries_of wide more
entry_own wide ask reply more =
    ap (λ b. if b then one_entry wide ask reply ∷ entries_of wide more else entries_of wide more)
    (eq-eqb wide wide refl)

pub entry_other : (wide other : ℕ) (ask : Sent) (reply : Pattern) (more : List (Sent × Pattern)) → other ≢ wide
    → entries_of wide (one_entry other ask reply ∷ more) ≡ entries_of wide more
entry_other wide other ask reply more apart =
    ap (λ b. if b then one_entry other ask reply ∷ entries_of wide more else entries_of wide more)
    (ne_eqb other wide apart)
