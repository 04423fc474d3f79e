-- In which order replies of a link begin. The standard lets replies to requests of different sources come in any order
-- (chapter "Deadlock freedom", "Request-response message ordering"); that they come in the order of the requests is what a
-- system says of a link, and this project's own. Lists of sightings have the latest first.
use Rattle.std.specs.Prelude.{◌≡◌, ℕ, ◌+◌, ◌%◌, ◌^◌, Bool, true, false, ◌&&◌, ◌==◌, if◌then◌else◌, List, [], ◌∷◌, ◌++◌, IsTrue}
use Rattle.check_watch.specs.declared.beat.Beat.{Beat}
use Rattle.check_watch.specs.declared.beat.Beat.TheVariants.{A, D}
use Rattle.check_watch.specs.declared.beat.Link.{Link}
use Rattle.check_watch.specs.Plan.{Plan, Sighting, is_fifo, is_link, link_number, side_of, source_of}
use Rattle.check_watch.specs.Scene.{begins}
use Rattle.check_sides.specs.Lawful.{under_way}

-- the beat is the first of its message
abbrev pub begins_after : Plan → List Sighting → Sighting → Bool
begins_after plan past x = begins (under_way plan past x.link) x.beat

-- the beat is one of a request
abbrev pub is_request : Beat → Bool
is_request (A ask) = true
is_request (D reply) = false

-- the beat is one of a reply
abbrev pub is_reply : Beat → Bool
is_reply (A ask) = false
is_reply (D reply) = true

-- a request begins at a link with this beat
abbrev pub asks_at : Plan → List Sighting → Sighting → Link → Bool
asks_at plan past x link =
    is_link x.link (side_of link) (link_number link) && (is_request x.beat && begins_after plan past x)

-- a reply begins there with it
abbrev pub answers_at : Plan → List Sighting → Sighting → Link → Bool
answers_at plan past x link =
    is_link x.link (side_of link) (link_number link) && (is_reply x.beat && begins_after plan past x)

-- ---- numbers, which are counted modulo 2^64

-- the number after this one
abbrev pub next : ℕ → ℕ
next count = (count + 1) % 2 ^ 64

-- one more, if that is counted
abbrev pub count_if : Bool → ℕ → ℕ
count_if true count = next count
count_if false count = count

-- how many requests have begun at a link
abbrev pub asked_at : Plan → List Sighting → Link → ℕ
asked_at plan [] link = 0
asked_at plan (x ∷ past) link = count_if (asks_at plan past x link) (asked_at plan past link)

-- how many replies have begun there
abbrev pub answered_at : Plan → List Sighting → Link → ℕ
answered_at plan [] link = 0
answered_at plan (x ∷ past) link = count_if (answers_at plan past x link) (answered_at plan past link)

-- the number of the last request of a source there: how many have begun with it; 0 if none has begun of the source
abbrev pub number_of : Plan → List Sighting → Link → ℕ → ℕ
number_of plan [] link source = 0
number_of plan (x ∷ past) link source =
    if asks_at plan past x link && (source_of x.beat == source) then next (asked_at plan past link)
    else number_of plan past link source

-- ---- the rule

-- a beat that begins a reply of such a link: the n-th reply is one to the request of number n
abbrev pub IsInTurn : Plan → List Sighting → Sighting → Type 0
IsInTurn plan past x =
    IsTrue (is_fifo plan.layout x.link) → IsTrue (is_reply x.beat) → IsTrue (begins_after plan past x)
    → number_of plan past x.link (source_of x.beat) ≡ next (answered_at plan past x.link)

-- all replies of such links have begun in turn
abbrev pub AreInTurn : Plan → List Sighting → Type 0
AreInTurn plan [] = Unit {0}
AreInTurn plan (x ∷ past) = AreInTurn plan past × IsInTurn plan past x

-- ---- the same of whole lists

-- the sources of the requests that have begun at a link, in the order in which they began
abbrev pub asks : Plan → List Sighting → Link → List ℕ
asks plan [] link = []
asks plan (x ∷ past) link =
    if asks_at plan past x link then asks plan past link ++ source_of x.beat ∷ [] else asks plan past link

-- the sources of the replies that have begun there
abbrev pub answers : Plan → List Sighting → Link → List ℕ
answers plan [] link = []
answers plan (x ∷ past) link =
    if answers_at plan past x link then answers plan past link ++ source_of x.beat ∷ [] else answers plan past link

-- the replies that have begun at a link are to the requests that began there first, in the same order
abbrev pub AreInOrder : Plan → List Sighting → Link → Type 0
AreInOrder plan past link = (more : List ℕ) × (asks plan past link ≡ answers plan past link ++ more)
