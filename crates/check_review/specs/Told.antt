-- What is told of beats that crossed: a line for each whole reply that is counted, in the order in which the replies
-- end. Lists of sightings have the latest first. This project's own.
use Rattle.std.specs.Prelude.{◌≡◌, ℕ, Bool, true, false, ◌&&◌, List, [], ◌∷◌, ◌++◌}
use Rattle.tl_map.specs.declared.owners.Owner.{Owner}
use Rattle.check_watch.specs.declared.beat.Link.{Link}
use Rattle.check_watch.specs.Plan.{Sighting, source_of}
use Rattle.check_watch.specs.declared.seen.Seen.{Seen}
use Rattle.check_watch.specs.declared.seen.Seen.TheVariants.{Part, WholeAsk, WholeReply}
use Rattle.check_sides.specs.Plan.{Plan}
use Rattle.check_turns.specs.Lawful.{what_is_seen}
use Rattle.check_watch.specs.declared.links.Links.{Links}
use Rattle.check_lines.specs.Trace.{HasOwner, IsLine}
use Rattle.check_coverage.specs.Flights.{is_counted}
use Rattle.check_review.specs.Stretches.{Stretch, sightings_in}

-- where messages of a link are counted, the source is somebody's
abbrev pub IsCountedOfOwner : Links → List Owner → Link → ℕ → Type 0
IsCountedOfOwner links owners link source = is_counted links link ≡ true → HasOwner owners link source

-- what is told of a beat that ends this, if it is counted: the line of a whole reply, and nothing of all else
abbrev pub IsToldOf : Bool → List Owner → Link → ℕ → Seen → List ℕ → Type 0
IsToldOf true owners link source (WholeReply entry) text = IsLine owners link source entry text
IsToldOf true owners link source WholeAsk text = text ≡ []
IsToldOf true owners link source Part text = text ≡ []
IsToldOf false owners link source seen text = text ≡ []

-- what is told of beats that crossed, if they are traced: of none nothing; of one more the text so far, and then what
-- is told of it
abbrev pub IsTold : Bool → Plan → List Sighting → List ℕ → Type 0
IsTold trace plan [] text = text ≡ []
IsTold trace plan (x ∷ past) text =
    (so_far : List ℕ) × (more : List ℕ) × (text ≡ so_far ++ more) × IsTold trace plan past so_far
    × IsToldOf (trace && is_counted plan.layout.links x.link) plan.layout.owners x.link (source_of x.beat)
    (what_is_seen plan past x) more

-- what is told of stretches, the latest of which is in front: what is told of those before it, and then what is told of it
abbrev pub IsToldOfAll : Bool → List Stretch → List ℕ → Type 0
IsToldOfAll trace [] text = text ≡ []
IsToldOfAll trace (stretch ∷ ended) text =
    (so_far : List ℕ) × (more : List ℕ) × (text ≡ so_far ++ more) × IsToldOfAll trace ended so_far
    × IsTold trace stretch.plan (sightings_in stretch) more

-- ---- for the proofs: a text that grows

-- a text grew by what is told of a beat that ends this
abbrev pub AppendsToldOf : Bool → List Owner → Link → ℕ → Seen → List ℕ → List ℕ → Type 0
AppendsToldOf counted owners link source seen old new =
    (more : List ℕ) × (new ≡ old ++ more) × IsToldOf counted owners link source seen more

-- a text grew by what is told of the beats that crossed since a past
pub record AppendsTold (trace : Bool) (plan : Plan) (past now : List Sighting) (old new : List ℕ) : Type 0 where
  pub more : List ℕ
  pub grown : new ≡ old ++ more
  pub told : (so_far : List ℕ) → IsTold trace plan past so_far → IsTold trace plan now (so_far ++ more)

-- the same of the beats of stretches that crossed since others did
pub record GrowsTold (trace : Bool) (past now : List Stretch) (old new : List ℕ) : Type 0 where
  pub more : List ℕ
  pub grown : new ≡ old ++ more
  pub told : (so_far : List ℕ) → IsToldOfAll trace past so_far → IsToldOfAll trace now (so_far ++ more)
