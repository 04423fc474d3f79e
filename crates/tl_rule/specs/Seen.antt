-- What a master knows of a port's history, from what it has seen. All of it is this project's own; which reply is
-- lawful in a history is of the chapter "TL-UL and TL-UH operations" of the TileLink specification.
use Rattle.std.specs.Prelude.{◌≡◌, ◌≢◌, ℕ, ◌<◌, ◌++◌, cond, eqb, filter, Contains, List, [], ◌∷◌, ◌⊎◌, slice_get, Some}
use Rattle.tl_types.specs.Request.{Request}
use Rattle.tl_types.specs.Response.{Response}
use Rattle.tl_types.specs.declared.trace.Entry.{Entry}
use Rattle.tl_rule.specs.declared.view.About.{About}
use Rattle.tl_rule.specs.declared.view.Held.{Held}
use Rattle.tl_rule.specs.declared.view.Held.TheVariants.{Nothing, Filled, Sent, Taken}
use Rattle.tl_rule.specs.Views.{Owns}

-- ---- a history after what was seen

-- place `index` of h is this request and reply, and each entry that was seen stands before it
pub record SeenFit (h : List (Request × Response)) (index : ℕ) (ask : Request) (reply : Response) (seen : List Entry)
    : Type 0 where
  pub place : slice_get h index ≡ Some (ask, reply)
  pub before : (e : Entry) → Contains seen e → (e.index < index) × (slice_get h e.index ≡ Some (e.ask, e.reply))

-- ---- a history of masters' requests

-- every request of h is of a wide source of some master: so no other request can have changed what a master reads
abbrev pub IsOfMasters : About → List (Request × Response) → Type 0
IsOfMasters about h =
    (k : ℕ) (x : Request × Response) → slice_get h k ≡ Some x → (master : ℕ) × Owns about master x.0.source

-- ---- a history with just a master's own requests

-- an entry has this place
pub record IsPlaceOf (got : List Entry) (k : ℕ) : Type 0 where
  pub entry : Entry
  pub is : Contains got entry
  pub at : entry.index ≡ k

-- each entry of `got` stands at its index of h; what else h has of the master's own sources is of requests of `out`;
-- and of two places with one source of the master's own, one at least is that of an entry of `got`
pub record JustOwn (h : List (Request × Response)) (own : ℕ → Type 0) (got : List Entry) (out : List Request)
    : Type 0 where
  pub stand : (e : Entry) → Contains got e → slice_get h e.index ≡ Some (e.ask, e.reply)
  pub others : (k : ℕ) (x : Request × Response) → slice_get h k ≡ Some x → own x.0.source
      → IsPlaceOf got k ⊎ Contains out x.0
  pub once : (k l : ℕ) (x y : Request × Response) → slice_get h k ≡ Some x → slice_get h l ≡ Some y
      → own x.0.source → x.0.source ≡ y.0.source
      → k ≢ l → IsPlaceOf got k ⊎ IsPlaceOf got l

-- ---- what a master has to do with one port

-- the entries that were collected at the port
abbrev pub at_port : ℕ → List Entry → List Entry
at_port p entries = filter (λ (e : Entry). eqb e.port p) entries

-- the request that stands in the hand as sent to the port
abbrev pub sent_to : ℕ → Held → List Request
sent_to p Nothing = []
sent_to p Filled = []
sent_to p (Sent ask q known) = cond (eqb q p) (ask ∷ []) []
sent_to p (Taken q) = []

-- the requests that were sent to the port and not collected
abbrev pub sent_at : ℕ → List Held → List Request
sent_at p [] = []
sent_at p (x ∷ xs) = sent_to p x ++ sent_at p xs
