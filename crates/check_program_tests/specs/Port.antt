-- The ranges of one port, as the reader of system files leaves them. It is this project's own.
use Rattle.std.specs.Prelude.{◌<◌, ◌≤◌, List, length, All}
use Rattle.tl_map.specs.declared.range.Range.{Range}
use Rattle.tl_map.specs.Map.{IsLawfulRange}
use Rattle.tl_map.specs.declared.limits.TheConstants.{MAX_RANGES_OF_PORT}

-- one range or more, not too many, and each of them lawful
pub record IsPort (ranges : List Range) : Type 0 where
  pub some : 0 < length ranges
  pub few : length ranges ≤ MAX_RANGES_OF_PORT
  pub each : All IsLawfulRange ranges
