-- The request of each wide source, before and after a moment.
use Rattle.std.proofs.Common.{◌≡◌, ◌∙◌, ◌⊎◌, inl, inr, ⊎_elim, ℕ, Option, Some, None, refl, sym, ap}
use Rattle.std.specs.Prelude.{option_map}
use Rattle.std.proofs.lemmas.Bool.{cases_eq, eq-eqb, ne_eqb}
use Rattle.tl_types.specs.Request.{Request}
use Rattle.check_cells.specs.Sent.{Sent}
use Rattle.check_contests.specs.Contests.{Accepted}
use Rattle.check_contests.specs.Moments.{Course, asked_of, course_with}
use Rattle.check_contests.specs.Moments.Course.{Waiting}

pub course-here : (course : ℕ → Course) (wide : ℕ) (next : Course) → course_with course wide next wide ≡ next
course-here course wide next = rw (eq-eqb wide wide refl) refl

pub course-there : (course : ℕ → Course) (wide : ℕ) (next : Course) (other : ℕ) → (other ≡ wide → ⊥)
    → course_with course wide next other ≡ course other
course-there course wide next other apart = rw (ne_eqb other wide apart) refl

-- ---- one that is there, after one was accepted: it is that one, or it was there

abbrev pub IsNew : {A : Type 0} → ℕ → ℕ → A → A → Type 0
IsNew wide other one one' = (other ≡ wide) × (one ≡ one')

pub asked_cases : (course : ℕ → Course) (wide : ℕ) (sent : Sent) (other : ℕ) (ask' : Request)
    → asked_of (course_with course wide (Waiting sent) other) ≡ Some ask'
    → IsNew wide other sent.ask ask' ⊎ ((other ≡ wide → ⊥) × (asked_of (course other) ≡ Some ask'))
asked_cases course wide sent other ask' is = ⊎_elim
    (λ same. let here : Some sent.ask ≡ Some ask' =
    sym (ap asked_of (ap (course_with course wide (Waiting sent)) same ∙ course-here course wide (Waiting sent))) ∙ is in
    inl (same, some_same here))
    (λ apart. inr (apart, sym (ap asked_of (course-there course wide (Waiting sent) other apart)) ∙ is))
    (cases_eq other wide)
  where
    some_same : Some sent.ask ≡ Some ask' → sent.ask ≡ ask'
    some_same e = cc

pub waiting_cases : (course : ℕ → Course) (wide : ℕ) (sent : Sent) (other : ℕ) (sent' : Sent)
    → course_with course wide (Waiting sent) other ≡ Waiting sent'
    → IsNew wide other sent sent' ⊎ ((other ≡ wide → ⊥) × (course other ≡ Waiting sent'))
waiting_cases course wide sent other sent' is = ⊎_elim
    (λ same. let here : Waiting sent ≡ Waiting sent' =
    sym (ap (course_with course wide (Waiting sent)) same ∙ course-here course wide (Waiting sent)) ∙ is in
    inl (same, waiting_same here))
    (λ apart. inr (apart, sym (course-there course wide (Waiting sent) other apart) ∙ is))
    (cases_eq other wide)
  where
    waiting_same : Waiting sent ≡ Waiting sent' → sent ≡ sent'
    waiting_same e = cc

-- ---- those kept

-- a request that is there is kept
pub entry_of : (kept : Option Accepted) (ask : Request)
    → option_map (λ (entry : Accepted). entry.ask) kept ≡ Some ask
    → (entry : Accepted) × (kept ≡ Some entry) × (entry.ask ≡ ask)
entry_of None ask is = cc
entry_of (Some entry) ask is = (entry, refl, some_same entry is)
  where
    some_same : (e : Accepted) → Some e.ask ≡ Some ask → e.ask ≡ ask
    some_same e same = cc

pub none_kept : (kept : Option Accepted) → option_map (λ (entry : Accepted). entry.ask) kept ≡ None → kept ≡ None
none_kept None is = refl
none_kept (Some entry) is = cc
