-- The moments of a port come in turn, source by source: a request is accepted while none of its source is, and what is
-- answered is the one that was accepted.
use Rattle.std.proofs.Common.{◌≡◌, ℕ, if◌then◌else◌, List, [], ◌∷◌, ◌++◌, Option, Some, None, refl}
use Rattle.std.specs.Prelude.{◌==◌, ◌≢◌}
use Rattle.std.proofs.lemmas.Bool.{eq-eqb, ne_eqb}
use Rattle.check_cells.specs.Sent.{Sent}
use Rattle.check_watch_laws.specs.Moments.{Act, RequestMoment}
use Rattle.check_watch_laws.specs.Moments.Act.{Accepts, Answers}

-- ---- which requests are open

abbrev pub open_by : Act → Sent → Option Sent
open_by Accepts ask = Some ask
open_by Answers ask = None

-- the open request of each wide source after a moment
abbrev pub open_then : (ℕ → Option Sent) → RequestMoment → ℕ → Option Sent
open_then held moment wide = if wide == moment.wide then open_by moment.act moment.sent else held wide

abbrev pub open_after : (ℕ → Option Sent) → List RequestMoment → ℕ → Option Sent
open_after held [] = held
open_after held (moment ∷ moments) = open_after (open_then held moment) moments

abbrev pub none_open : ℕ → Option Sent
none_open wide = None

pub open_more : (held : ℕ → Option Sent) (before later : List RequestMoment)
    → open_after held (before ++ later) ≡ open_after (open_after held before) later
open_more held [] later = refl
open_more held (moment ∷ before) later = open_more (open_then held moment) before later

pub open_here : (held : ℕ → Option Sent) (moment : RequestMoment) (wide : ℕ) → wide ≡ moment.wide
    → open_then held moment wide ≡ open_by moment.act moment.sent
open_here held moment wide is = rw (eq-eqb wide moment.wide is) refl

pub open_there : (held : ℕ → Option Sent) (moment : RequestMoment) (wide : ℕ) → wide ≢ moment.wide
    → open_then held moment wide ≡ held wide
open_there held moment wide apart = rw (ne_eqb wide moment.wide apart) refl

-- ---- in turn

abbrev pub IsInTurn : Act → Sent → Option Sent → Type 0
IsInTurn Accepts ask held = held ≡ None
IsInTurn Answers ask held = held ≡ Some ask

abbrev pub AreInTurn : (ℕ → Option Sent) → List RequestMoment → Type 0
AreInTurn held [] = Unit {0}
AreInTurn held (moment ∷ moments) =
    IsInTurn moment.act moment.sent (held moment.wide) × AreInTurn (open_then held moment) moments

pub in_turn_more : (held : ℕ → Option Sent) (before later : List RequestMoment) → AreInTurn held before
    → AreInTurn (open_after held before) later → AreInTurn held (before ++ later)
in_turn_more held [] later all more = more
in_turn_more held (moment ∷ before) later all more =
    (all.0, in_turn_more (open_then held moment) before later all.1 more)
