-- What each call makes of a judge. Lists of what crossed have the latest first. This project's own.
use Rattle.std.specs.Prelude.{◌≡◌, ◌↔◌, ◌&&◌, ◌%◌, ◌^◌, ◌<◌, ◌≤◌, ◌==◌, ◌≢◌, ◌⊎◌, if◌then◌else◌, false, ℕ, List, [], ◌∷◌, length, take, Option, Some, None, IsSome, IsSomeAnd, vec_capacity}
use Rattle.check_flight.specs.PortSlave.{PortSlave}
use Rattle.check_flight.specs.declared.order.Order.{Order}
use Rattle.check_flight.specs.declared.order.Order.TheVariants.{Accept, Reply, Any}
use Rattle.check_watch.specs.Plan.{Sighting, seen_at}
use Rattle.check_watch.specs.declared.fault.Fault.{Fault}
use Rattle.check_turns.specs.Lawful.{IsFirstFaultInOrder, IsLawfulInOrder, MayNeedMemory, what_is_seen}
use Rattle.check_sides.specs.Plan.{Layout, Plan, bus_of}
use Rattle.check_sides.specs.Reset.{IsReset}
use Rattle.check_turns.specs.View.{KeepsOrdered}
use Rattle.check_watch.specs.declared.links.Links.{Links}
use Rattle.check_watch.specs.declared.links.Links.TheVariants.{Both, Masters, Ports, Each}
use Rattle.check_rows.specs.Row.{SeenRow, row_with}
use Rattle.check_rows.specs.PortNumbers.{numbered, numbers_in}
use Rattle.check_rows.specs.declared.row.Row.{Row}
use Rattle.check_unanswered.specs.Began.{IsLeft}
use Rattle.check_unanswered.specs.View.{Holds}
use Rattle.check_rows.specs.declared.request.Left.{Left}
use Rattle.check_lines.specs.Names.{NamesView}
use Rattle.check_lines.specs.Verdict.{incomplete_line, unlawful_line}
use Rattle.check_coverage.specs.Flights.{is_counted}
use Rattle.check_review.specs.Count.{is_whole_ask, is_whole_reply, one_more}
use Rattle.check_description.specs.Description.{Description, Makes}
use Rattle.check_start.specs.Loads.{AreLoadsOf}
use Rattle.check_start.specs.Numbers.{numbers_of}
use Rattle.check_start.specs.Start.{ByThePlan, layout_of, system_names}
use Rattle.check_start.specs.declared.start.Terms.{Terms}
use Rattle.tl_c.specs.Draft.{DraftView, IsDraftOf, LacksNone, image_bytes}
use Rattle.tl_c.specs.Numbers.{beat_number}
use Rattle.tl_c.specs.declared.fault.TheConstants.{MEMORY, OK}
use Rattle.tl_c.specs.declared.held.HeldJudge.{HeldJudge}
use Rattle.tl_c.specs.declared.making.TheConstants.{LINE_ROOM}

-- ---- beats

-- what the bus of a link carries of a beat that is shown: its first lanes, and which of these were seen
abbrev pub on_bus : Layout → Sighting → Sighting
on_bus layout x =
    seen_at x.link x.beat (x.known % 2 ^ bus_of layout x.link) (take (bus_of layout x.link) x.lanes)

-- the same as it is judged: at a port's link that has numbers of its own with the system's source
abbrev pub judged : HeldJudge → Sighting → Sighting
judged judge x = numbered (numbers_in judge.numbers.items) (on_bus judge.watch.layout x)

-- the judge was shown this, after these beats by this plan, and has answered this number
pub record IsStep (plan : Plan) (past : List Sighting) (shown : Sighting) (old : HeldJudge) (number : ℕ)
    (new : HeldJudge) : Type 0 where
  pub lawful : number ≢ MEMORY → number ≡ OK ↔ IsLawfulInOrder plan (shown ∷ past)
  pub memory : number ≡ MEMORY → IsLawfulInOrder plan (shown ∷ past)
  pub needed : number ≡ MEMORY → MayNeedMemory plan past shown
  pub keeps : number ≡ OK → KeepsOrdered plan (shown ∷ past) new.watch
  pub requests : number ≡ OK → new.requests ≡ one_more
      (is_counted plan.layout.links shown.link && is_whole_ask (what_is_seen plan past shown)) old.requests
  pub answered : number ≡ OK → new.answered ≡ one_more
      (is_counted plan.layout.links shown.link && is_whole_reply (what_is_seen plan past shown)) old.answered
  pub text : number ≡ OK → new.text ≡ old.text
  pub names : number ≡ OK → new.names ≡ old.names
  pub resets : number ≡ OK → new.resets ≡ old.resets
  pub loads : number ≡ OK → new.loads ≡ old.loads
  pub numbers : number ≡ OK → new.numbers ≡ old.numbers

-- the text is the line of this fault, with these names of links; or it is empty, if there was no room for the line
abbrev pub IsLineOf : NamesView → Row → Fault → ℕ → List ℕ → Type 0
IsLineOf names row fault room text =
    (text ≡ unlawful_line names row fault) ⊎ ((text ≡ []) × (room < length (unlawful_line names row fault)))

-- what was shown with this line and this time
abbrev pub shown_row : ℕ → ℕ → Sighting → SeenRow
shown_row line time shown = record { line = line; time = time; is_reset = false; sighting = shown }

-- the number is that of the first fault of the beat that is shown, and the text is the line of this fault, with the
-- line and the time that the beat was shown with
pub record IsFaultOfBeat (plan : Plan) (past : List Sighting) (shown : Sighting) (line time : ℕ) (old : HeldJudge)
    (number : ℕ) (new : HeldJudge) : Type 0 where
  pub row : Row
  pub shows : row_with row shown.lanes ≡ shown_row line time shown
  pub fault : Fault
  pub number_is : number ≡ beat_number fault
  pub first : IsFirstFaultInOrder plan past shown fault
  pub text : IsLineOf old.names row fault (vec_capacity old.text) new.text.items

-- after a fault, or if requests are left, the judge is as it was, but for its text, whose room is no less
pub record KeepsAllButText (old new : HeldJudge) : Type 0 where
  pub watch : new.watch ≡ old.watch
  pub names : new.names ≡ old.names
  pub resets : new.resets ≡ old.resets
  pub loads : new.loads ≡ old.loads
  pub numbers : new.numbers ≡ old.numbers
  pub requests : new.requests ≡ old.requests
  pub answered : new.answered ≡ old.answered
  pub pending : new.pending ≡ old.pending
  pub room : vec_capacity old.text ≤ vec_capacity new.text

-- the text is the line of the requests that are left; or it is empty, if there was no room for the line
abbrev pub IsLineOfLeft : Left → ℕ → List ℕ → Type 0
IsLineOfLeft left room text = (text ≡ incomplete_line left) ⊎ ((text ≡ []) × (room < length (incomplete_line left)))

-- requests are left after these rows, and the text is their line
pub record IsEndOf (plan : Plan) (rows : List SeenRow) (old new : HeldJudge) : Type 0 where
  pub left : Left
  pub is_left : IsLeft plan rows left
  pub text : IsLineOfLeft left (vec_capacity old.text) new.text.items

-- ---- resets

-- the plan by which a system goes on whose slaves a reset leaves like this
abbrev pub with_slaves : Plan → List PortSlave → List PortSlave → Plan
with_slaves plan resets own = record plan { resets = resets; own = own }

-- the judge goes on after a reset of the whole system, before which these beats crossed by this plan: ports hold what is loaded
-- into them, or what the reset has left; no beat has crossed since then, and no request is in flight
pub record IsAfterReset (plan : Plan) (past : List Sighting) (old new : HeldJudge) : Type 0 where
  pub resets : List PortSlave
  pub own : List PortSlave
  pub is : IsReset plan past old.loads old.loads resets own
  pub keeps : KeepsOrdered (with_slaves plan resets own) [] new.watch
  pub pending : (rows : List SeenRow) → Holds plan rows old.pending → Holds (with_slaves plan resets own) [] new.pending

-- a reset leaves the names, what resets load, the counts and the text as they were
pub record KeepsAtReset (old new : HeldJudge) : Type 0 where
  pub names : new.names ≡ old.names
  pub resets : new.resets ≡ old.resets
  pub loads : new.loads ≡ old.loads
  pub numbers : new.numbers ≡ old.numbers
  pub requests : new.requests ≡ old.requests
  pub answered : new.answered ≡ old.answered
  pub text : new.text ≡ old.text

-- ---- copies

-- the judge goes on from where the old one is; its text has room for a line
pub record IsCopyOf (old new : HeldJudge) : Type 0 where
  pub watch : new.watch ≡ old.watch
  pub names : new.names ≡ old.names
  pub resets : new.resets ≡ old.resets
  pub loads : new.loads ≡ old.loads
  pub numbers : numbers_in new.numbers.items ≡ numbers_in old.numbers.items
  pub pending : new.pending ≡ old.pending
  pub requests : new.requests ≡ old.requests
  pub answered : new.answered ≡ old.answered
  pub text : new.text.items ≡ old.text.items
  pub room : LINE_ROOM ≤ vec_capacity new.text

-- ---- judges before any beat

-- a judge of this system with these bytes of its images, before any beat: it keeps no beat by each plan of the system, of
-- which there is one, has what a reset loads and the numbers of ports' links, has counted none, and no request is in flight; its text is empty, with room
-- for a line
pub record BeginsBy (terms : Terms) (system : Description) (images : List (List ℕ)) (judge : HeldJudge) : Type 0 where
  pub layout : judge.watch.layout ≡ layout_of terms system
  pub keeps : ByThePlan terms system images (λ plan. KeepsOrdered plan.begins [] judge.watch)
  pub pending : ByThePlan terms system images (λ plan. Holds plan.begins [] judge.pending)
  pub resets : judge.resets ≡ system.resets
  pub loads : ByThePlan terms system images (λ plan. AreLoadsOf plan judge.loads)
  pub numbers : numbers_in judge.numbers.items ≡ numbers_of terms.links system
  pub names : judge.names ≡ system_names system
  pub requests : judge.requests ≡ 0
  pub answered : judge.answered ≡ 0
  pub text : judge.text.items ≡ []
  pub room : LINE_ROOM ≤ vec_capacity judge.text

-- the same, of the system that the parts of a draft make, with the images that were handed in, of which none lacks
pub record IsJudgeOf (terms : Terms) (draft : DraftView) (judge : HeldJudge) : Type 0 where
  pub whole : LacksNone draft
  pub system : Description
  pub made : Makes draft.parts system
  pub begins : BeginsBy terms system (image_bytes draft.images) judge

-- and of what a file names, which has no images
pub record IsJudgeOfFile (terms : Terms) (file : List ℕ) (judge : HeldJudge) : Type 0 where
  pub draft : DraftView
  pub named : IsDraftOf file draft
  pub is : IsJudgeOf terms draft judge

-- ---- the numbers of links and order

-- the links that a number stands for: 0 both, 1 the masters', 2 the ports', 3 each; none for other numbers.
abbrev pub links_of : ℕ → Option Links
links_of n =
    if n == 0 then Some Both
    else if n == 1 then Some Masters
    else if n == 2 then Some Ports
    else if n == 3 then Some Each
    else None

-- the order that a number stands for: 0 `accept`, 1 `reply`, 2 `any`; none for other numbers.
abbrev pub order_of : ℕ → Option Order
order_of n =
    if n == 0 then Some Accept
    else if n == 1 then Some Reply
    else if n == 2 then Some Any
    else None

-- the number of links has a meaning, and so have those of the order of each side
abbrev pub AreTerms : ℕ → ℕ → ℕ → Type 0
AreTerms links masters ports = IsSome (links_of links) × IsSome (order_of masters) × IsSome (order_of ports)

-- something holds by the terms that they mean, without a limit of time
abbrev pub ByTerms : ℕ → ℕ → ℕ → (Terms → Type 0) → Type 0
ByTerms links masters ports Is =
    IsSomeAnd (links_of links) (λ l. IsSomeAnd (order_of masters) (λ m. IsSomeAnd (order_of ports) (λ p.
    Is (record { links = l; orders = record { masters = m; ports = p }; within = None }))))
