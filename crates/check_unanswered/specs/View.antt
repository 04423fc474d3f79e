-- What is kept of the requests in flight. This project's own.
use Rattle.std.specs.Prelude.{◌≡◌, ℕ, ◌<◌, ◌%◌, ◌^◌, List, length, Option, Some, option_map, slice_set}
use Rattle.tl_map.specs.Owner.{IsOwned, IsWideSource}
use Rattle.check_watch.specs.Plan.{LinkSide}
use Rattle.check_watch.specs.Plan.LinkSide.{AtMasters, AtPorts}
use Rattle.check_sides.specs.Plan.{Plan}
use Rattle.check_rows.specs.Row.{SeenRow}
use Rattle.check_unanswered.specs.Began.{began}
use Rattle.check_unanswered.specs.Table.{open_at}
use Rattle.check_rows.specs.declared.request.Open.{Open}

-- the request in flight of each wide source, on each side, and how many rows were judged
pub record PendingView : Type 0 where
  pub masters : List (Option Open)
  pub ports : List (Option Open)
  pub taken : ℕ

-- the request in flight of each wide source on a side, by the number of the source.
abbrev pub open_table : PendingView → LinkSide → List (Option Open)
open_table pending AtMasters = pending.masters
open_table pending AtPorts = pending.ports

-- this is in flight of a wide source from now on
abbrev pub with_open : PendingView → LinkSide → ℕ → Option Open → PendingView
with_open pending AtMasters wide ask = record pending { masters = slice_set pending.masters wide ask }
with_open pending AtPorts wide ask = record pending { ports = slice_set pending.ports wide ask }

-- it is of this wide source, and the owner's
pub record IsOf (plan : Plan) (wide : ℕ) (ask : Open) : Type 0 where
  pub here : ask.origin.wide ≡ wide
  pub own : IsWideSource plan.layout.owners ask.origin.master ask.origin.source ask.origin.wide

-- this is what is in flight after these rows
pub record Holds (plan : Plan) (rows : List SeenRow) (pending : PendingView) : Type 0 where
  pub room : (side : LinkSide) (wide : ℕ) → IsOwned plan.layout.owners wide → wide < length (open_table pending side)
  pub began : (side : LinkSide) (wide : ℕ)
      → option_map (λ (ask : Open). ask.began) (open_at (open_table pending side) wide) ≡ began plan rows side wide
  pub own : (side : LinkSide) (wide : ℕ) (ask : Open) → open_at (open_table pending side) wide ≡ Some ask
      → IsOf plan wide ask
  pub taken : pending.taken ≡ length rows % 2 ^ 64
