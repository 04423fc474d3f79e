-- The views of seats: what is looked up in them, and how a step changes them. All of it is this project's own.
use Rattle.std.specs.Prelude.{◌≡◌, ℕ, ◌<◌, false, true, List, [], slice_get, slice_index_or, slice_set, replicate}
use Rattle.std.specs.Prelude.{Option, Some}
use Rattle.tl_types.specs.Request.{Request}
use Rattle.tl_types.specs.Response.{Response}
use Rattle.tl_types.specs.declared.trace.Entry.{Entry}
use Rattle.tl_ops.specs.Store.{Store}
use Rattle.tl_ops.specs.declared.kind.Kind.TheVariants.{NoDevice}
use Rattle.tl_map.specs.Owner.{IsOf}
use Rattle.tl_rule.specs.declared.view.About.{About}
use Rattle.tl_rule.specs.declared.view.Held.{Held}
use Rattle.tl_rule.specs.declared.view.Held.TheVariants.{Nothing}
use Rattle.tl_rule.specs.declared.view.Hands.{Hands}
use Rattle.tl_rule.specs.declared.view.Desk.{Desk}
use Rattle.tl_rule.specs.Serving.{ask_at}

-- ---- what never changes

-- the wide source is one of the master's. The padding of a block is nobody's.
abbrev pub Owns : About → ℕ → ℕ → Type 0
Owns about master wide = IsOf about.owners master wide

-- what a look-up gives if there is no such port: a memory without bytes, which serves nothing.
abbrev pub no_store : Store
no_store = record { kind = NoDevice; base = 0; bytes = [] }

-- what the port's bank held when the arena was made
abbrev pub reset_of : About → ℕ → Store
reset_of about port = slice_index_or about.resets port no_store

-- what never changes, in a view that is not there: all counts are 0.
abbrev pub no_about : About
no_about = record { slots = 0; masters = 0; ports = 0; owners = []; resets = [] }

-- ---- new views, and views that are not there

-- the view of master m before its first step: nothing is in its hand, it has collected nothing, and it has not left.
abbrev pub new_hands : About → ℕ → Hands
new_hands a m = record { number = m; about = a; hand = replicate a.slots Nothing; got = []; left = false }

-- the view of port p before its first step: it has answered nothing, and serves nothing.
abbrev pub new_desk : About → ℕ → Desk
new_desk a p = record { number = p; about = a; list = []; serving = [] }

-- what a look-up gives if there is no view of such a master.
abbrev pub no_hands : Hands
no_hands = record { number = 0; about = no_about; hand = []; got = []; left = false }

-- what a look-up gives if there is no view of such a port.
abbrev pub no_desk : Desk
no_desk = record { number = 0; about = no_about; list = []; serving = [] }

-- ---- look-ups: what is not there is blank

-- the view of master m; blank if there is none.
abbrev pub hands : List Hands → ℕ → Hands
hands ms m = slice_index_or ms m no_hands

-- the view of port p; blank if there is none.
abbrev pub desk : List Desk → ℕ → Desk
desk ps p = slice_index_or ps p no_desk

-- what the master's hand has of the slot
abbrev pub held : List Hands → ℕ → ℕ → Held
held ms m i = slice_index_or (hands ms m).hand i Nothing

-- what this view of a master's has in hand of the slot
abbrev pub in_hand : Hands → ℕ → Held
in_hand v i = slice_index_or v.hand i Nothing

-- the request that the port serves at the slot
abbrev pub served : List Desk → ℕ → ℕ → Option Request
served ps p i = ask_at (desk ps p).serving i

-- each index that was collected at the port among the first `known` entries is below this one
abbrev pub Above : List Entry → ℕ → ℕ → ℕ → Type 0
Above got known p index = (j : ℕ) (e : Entry) → j < known → slice_get got j ≡ Some e → e.port ≡ p → e.index < index

-- ---- changes

-- the hand has x of the slot, and these replies were collected
abbrev pub with_hand : Hands → ℕ → Held → List Entry → Hands
with_hand v i x got = record {
  number = v.number;
  about = v.about;
  hand = slice_set v.hand i x;
  got = got;
  left = v.left;
}

-- the port serves these slots, and has this list
abbrev pub with_serving : Desk → List (ℕ × Request) → List (Request × Response) → Desk
with_serving u serving list = record { number = u.number; about = u.about; list = list; serving = serving }

-- the master has left
abbrev pub gone_hands : Hands → Hands
gone_hands v = record { number = v.number; about = v.about; hand = v.hand; got = v.got; left = true }
