-- What the calls of a book do to it. All of it is this project's own; what a request leaves of a memory, and its reply,
-- are of the chapter "TL-UL and TL-UH operations" of the TileLink specification.
use Rattle.std.specs.Prelude.{◌≡◌, ℕ, ◌++◌, List, [], ◌∷◌, length, Option, Some, None, IsSome, is_some}
use Rattle.tl_types.specs.Request.{Request}
use Rattle.tl_ops.specs.Store.{after, reply}
use Rattle.tl_arena.specs.Views.{PortView, with_accepted, with_answered}
use Rattle.tl_arena.specs.Promises.{IsAcceptStep}
use Rattle.tl_port.specs.declared.book.Intake.{Intake}
use Rattle.tl_port.specs.declared.book.Intake.TheVariants.{Taken, Nothing, JournalFull}
use Rattle.tl_port.specs.declared.book.Step.{Step}
use Rattle.tl_port.specs.Book.{BookView}

-- ---- intake

-- the slot with its request is the last in flight, and all else is as it was
abbrev pub with_flight : BookView → ℕ × Request → BookView
with_flight b f = record {
  seat = with_accepted b.seat f;
  store = b.store;
  history = b.history;
  flights = b.flights ++ f ∷ [];
  journal = b.journal;
}

-- one request of this source is accepted, and joins the end of what is in flight
pub record AcceptsOne (u : PortView) (flights : List (ℕ × Request)) (source : ℕ) (v : PortView)
    (more : List (ℕ × Request)) : Type 0 where
  pub flight : ℕ × Request
  pub source_is : flight.1.source ≡ source
  pub seat : v ≡ with_accepted u flight
  pub event : IsAcceptStep u flight v
  pub pushed : more ≡ flights ++ flight ∷ []

-- one request of this source, which its owner has posted for the port, is taken
pub record TakesOne (b : BookView) (source : ℕ) (c : BookView) : Type 0 where
  pub flight : ℕ × Request
  pub source_is : flight.1.source ≡ source
  pub event : IsAcceptStep b.seat flight c.seat
  pub book : c ≡ with_flight b flight

-- what an intake does to the book b, by its answer: it takes one request and leaves the book c, or nothing changes.
abbrev pub Takes : BookView → Intake → BookView → Type 0
Takes b (Taken source) c = TakesOne b source c
Takes b Nothing c = c ≡ b
Takes b JournalFull c = c ≡ b

-- ---- service

-- the request in flight is answered by the memory and is the last of the history, these are left in flight, and all
-- else is as it was
abbrev pub with_served : BookView → ℕ × Request → List (ℕ × Request) → BookView
with_served b f left = record {
  seat = with_answered b.seat f (reply b.store f.1);
  store = after b.store f.1;
  history = b.history ++ (f.1, reply b.store f.1) ∷ [];
  flights = left;
  journal = b.journal;
}

-- the oldest request in flight is served, and this is its place in the history
pub record ServesOne (b : BookView) (place : ℕ) (c : BookView) : Type 0 where
  pub flight : ℕ × Request
  pub oldest : b.flights ≡ flight ∷ c.flights
  pub place_is : place ≡ length b.history
  pub book : c ≡ with_served b flight c.flights

-- what a service does to the book b, by its answer: it serves the oldest request, at this place of the history; or
-- nothing is in flight, and nothing changes.
abbrev pub Serves : BookView → Option ℕ → BookView → Type 0
Serves b None c = (b.flights ≡ []) × (c ≡ b)
Serves b (Some place) c = ServesOne b place c

-- ---- both

-- the source of the oldest request in flight
abbrev pub oldest_source : List (ℕ × Request) → Option ℕ
oldest_source [] = None
oldest_source (f ∷ fs) = Some f.1.source

-- an intake, and then a service
pub record TakesAndServes (b : BookView) (step : Step) (c : BookView) : Type 0 where
  pub between : BookView
  pub takes : Takes b step.intake between
  pub serves : Serves between step.index c
  pub source : step.source ≡ oldest_source between.flights

-- ---- what a step answers

-- whatever the book, the answer of a step agrees with itself: it names a source just if it served a request, and
-- if it took one it served one
pub record IsStepAnswer (step : Step) : Type 0 where
  pub named : is_some step.source ≡ is_some step.index
  pub served : (source : ℕ) → step.intake ≡ Taken source → IsSome step.index
