-- Whose wide sources are.
use Rattle.std.proofs.Common.{ℕ, ◌<◌, List, length}
use Rattle.tl_map.specs.declared.owners.Owner.{Owner}
use Rattle.tl_map.specs.Owner.{IsWideSource}
use Rattle.tl_map.proofs.Marking.{there}

-- a wide source is of one of the masters
pub wide_in_range : (owners : List Owner) (master source wide : ℕ) → IsWideSource owners master source wide
    → master < length owners
wide_in_range = there
