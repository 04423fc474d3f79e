-- How many requests and replies are whole, modulo 2 ^ 64. Lists of sightings have the latest first. This project's own.
use Rattle.std.specs.Prelude.{ℕ, ◌+◌, ◌%◌, ◌^◌, Bool, true, false, ◌&&◌, List, [], ◌∷◌}
use Rattle.check_watch.specs.Plan.{Sighting}
use Rattle.check_watch.specs.declared.seen.Seen.{Seen}
use Rattle.check_coverage.specs.Flights.{ends_a_reply, ends_an_ask, is_counted}
use Rattle.check_sides.specs.Plan.{Plan}
use Rattle.check_watch.specs.Scene.{ended_by}
use Rattle.check_turns.specs.Lawful.{what_is_seen}
use Rattle.check_review.specs.Stretches.{Stretch, sightings_in}

-- what was seen ends a request
abbrev pub is_whole_ask : Seen → Bool
is_whole_ask seen = ends_an_ask (ended_by seen)

-- what was seen ends a reply
abbrev pub is_whole_reply : Seen → Bool
is_whole_reply seen = ends_a_reply (ended_by seen)

-- one more if the test holds
abbrev pub one_more : Bool → ℕ → ℕ
one_more true count = (count + 1) % 2 ^ 64
one_more false count = count

-- how many whole requests there are with these, if there were so many before them
abbrev pub asked_in_past : ℕ → Plan → List Sighting → ℕ
asked_in_past before plan [] = before
asked_in_past before plan (x ∷ past) =
    one_more (is_counted plan.layout.links x.link && is_whole_ask (what_is_seen plan past x))
    (asked_in_past before plan past)

-- how many whole replies
abbrev pub answered_in_past : ℕ → Plan → List Sighting → ℕ
answered_in_past before plan [] = before
answered_in_past before plan (x ∷ past) =
    one_more (is_counted plan.layout.links x.link && is_whole_reply (what_is_seen plan past x))
    (answered_in_past before plan past)

-- how many whole requests, and how many whole replies, are those of stretches, the latest first
abbrev pub asked_in : List Stretch → ℕ
asked_in [] = 0
asked_in (stretch ∷ ended) = asked_in_past (asked_in ended) stretch.plan (sightings_in stretch)

-- how many whole replies are seen of some stretches, the latest first
abbrev pub answered_in : List Stretch → ℕ
answered_in [] = 0
answered_in (stretch ∷ ended) = answered_in_past (answered_in ended) stretch.plan (sightings_in stretch)
