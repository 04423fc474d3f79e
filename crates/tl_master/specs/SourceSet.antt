-- A set of sources as the bits of some words. All of it is this project's own.
use Rattle.std.specs.Prelude.{◌≡◌, ℕ, ◌<◌, ◌≤◌, ◌/◌, ◌%◌, cond, List, length, slice_index, Option, is_some}
use Rattle.std.specs.Int.{bit_at}
use Rattle.tl_map.specs.declared.limits.TheConstants.{MAX_BLOCK}
use Rattle.tl_arena.specs.Views.{TicketView}
use Rattle.tl_master.specs.Master.{ticket_at}

-- the source's bit: 1 where it is in the set, else 0
abbrev pub source_bit : List ℕ → ℕ → ℕ
source_bit words source = bit_at (slice_index words (source / 64)) (source % 64)

-- the bit is the lowest of the word that is set, from this one on
pub record IsLowestBit (word from bit : ℕ) : Type 0 where
  pub in_word : bit < 64
  pub not_below : from ≤ bit
  pub set : bit_at word bit ≡ 1
  pub lowest : (other : ℕ) → from ≤ other → other < bit → bit_at word other ≡ 0

-- the source is the lowest of the set from this one on
pub record IsLowestIn (words : List ℕ) (from source : ℕ) : Type 0 where
  pub known : source < MAX_BLOCK
  pub not_below : from ≤ source
  pub is_in : source_bit words source ≡ 1
  pub lowest : (other : ℕ) → from ≤ other → other < source → source_bit words other ≡ 0

-- the set has just the sources that something is out for
pub record IsSetOfOut (words : List ℕ) (out : List (Option TicketView)) : Type 0 where
  pub known : length out ≤ MAX_BLOCK
  pub each : (source : ℕ) → source_bit words source ≡ cond (is_some (ticket_at out source)) 1 0
