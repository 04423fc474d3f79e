-- A port whose ranges are one memory: byte k of each range is byte k of the first. This project's own.
use Rattle.std.specs.Prelude.{ℕ, Bool, true, false, ◌&&◌, not, ◌==◌, List, [], map, take, drop, Result}
use Rattle.std.specs.List.{list_any}
use Rattle.toml.specs.Data.{Members}
use Rattle.tl_map.specs.declared.range.Range.{Range}
use Rattle.tl_text.specs.Reading.{◌>>=◌, unless}
use Rattle.check_keys.specs.Value.{flag_at}
use Rattle.check_keys.specs.declared.fault.Key.TheVariants.{Mirror}
use Rattle.check_keys.specs.declared.fault.SystemFault.{SystemFault}
use Rattle.check_keys.specs.declared.fault.SystemFault.TheVariants.{OutOfRange}
use Rattle.check_description.specs.Ranges.{first_length}

-- one of the ranges has not the length of the first
abbrev pub differ_in_length : List Range → Bool
differ_in_length ranges = list_any (λ (range : Range). not (range.length == first_length ranges)) ranges

-- whether the ranges of a port are one memory, which they may be only if all are as long
unfoldable pub mirror_at : List Range → Members → Result Bool SystemFault
mirror_at ranges members = do
  mirror ← flag_at Mirror members
  unless (mirror && differ_in_length ranges) (OutOfRange Mirror) mirror

-- where the memory of a port stands: in all its ranges; or in the first, if they are one memory
abbrev pub ranges_kept : Bool → List Range → List Range
ranges_kept false ranges = ranges
ranges_kept true ranges = take 1 ranges

-- from which other addresses on the first range is seen
abbrev pub mirrors_kept : Bool → List Range → List ℕ
mirrors_kept false ranges = []
mirrors_kept true ranges = map (λ (range : Range). range.base) (drop 1 ranges)
