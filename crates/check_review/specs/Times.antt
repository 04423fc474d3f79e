-- Whether replies come in time, if there is a limit: a request may wait for so long, from its first beat to the first beat of its
-- reply. Lists of rows have the latest first. This project's own: the standard sets no limit of time.
use Rattle.std.specs.Prelude.{◌≡◌, ℕ, ◌<◌, if◌then◌else◌, List, [], ◌∷◌, Option, Some, None, IfSome, option_map}
use Rattle.std.specs.List.{AllByRecursion}
use Rattle.check_sides.specs.Plan.{Plan}
use Rattle.check_rows.specs.Row.{SeenRow}
use Rattle.check_rows.specs.declared.row.Row.{Row}
use Rattle.check_review.specs.declared.waiting.Waiting.{Waiting}
use Rattle.check_review.specs.Waiting.{WaitsView}
use Rattle.check_review.specs.Waiting.{first_late, waiting_in}
use Rattle.check_review.specs.Order.{watched}
use Rattle.check_review.specs.Stretches.{Stretch}

-- no request has waited for more than the limit by this time, after some rows
abbrev pub IsNoneLate : ℕ → Plan → List SeenRow → ℕ → Type 0
IsNoneLate limit plan rows time = first_late limit time (waiting_in plan (watched plan.layout rows)) ≡ None

-- whenever a row of a stretch crosses, no request has waited for more than the limit
abbrev pub AreInTime : ℕ → Plan → List SeenRow → Type 0
AreInTime limit plan [] = Unit {0}
AreInTime limit plan (row ∷ before) = AreInTime limit plan before × IsNoneLate limit plan before row.time

-- whenever a row of an earlier time than this crosses, none has
abbrev pub AreInTimeBefore : ℕ → ℕ → Plan → List SeenRow → Type 0
AreInTimeBefore time limit plan [] = Unit {0}
AreInTimeBefore time limit plan (row ∷ before) =
    AreInTimeBefore time limit plan before × (row.time < time → IsNoneLate limit plan before row.time)

-- the same of all rows of stretches, if there is a limit
abbrev pub StretchesInTime : Option ℕ → List Stretch → Type 0
StretchesInTime within stretches =
    IfSome within (λ limit. AllByRecursion (λ stretch. AreInTime limit stretch.plan stretch.rows) stretches)

-- the same of their rows of earlier times than this
abbrev pub StretchesInTimeBefore : ℕ → Option ℕ → List Stretch → Type 0
StretchesInTimeBefore time within stretches =
    IfSome within (λ limit. AllByRecursion (λ stretch. AreInTimeBefore time limit stretch.plan stretch.rows) stretches)

-- ---- what is kept

-- the row with which a request begins is named by all that is kept of it
pub record IsNamedAs (waiting : Waiting) (row : Row) : Type 0 where
  pub line : row.line ≡ waiting.line
  pub time : row.time ≡ waiting.time
  pub link : row.link ≡ waiting.link
  pub beat : row.beat ≡ waiting.beat

-- what is kept after some rows at links that are watched, if there is a limit
abbrev pub waits_after : Option ℕ → Plan → List SeenRow → Option WaitsView
waits_after within plan rows = option_map (λ limit. record { limit = limit; requests = waiting_in plan rows }) within

-- the first request that has waited for more than the limit by the time of the rows of a moment, before any of them: nothing waits
-- after a reset, which is the first of its time
abbrev pub late_before : Option WaitsView → List SeenRow → Option Waiting
late_before None rows = None
late_before (Some waits) [] = None
late_before (Some waits) (row ∷ rows) =
    if row.is_reset then None else first_late waits.limit row.time waits.requests
