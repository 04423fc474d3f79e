-- To which ports masters have paths. A crossbar need not join each master with each port: the standard leaves its shape to
-- the system. This project's own.
use Rattle.std.specs.Prelude.{ℕ, Bool, true, false, List, Option, None, Some, Vec, map, option_and_then, option_map, slice_get, slice_index_or}
use Rattle.std.specs.Global.{Global}

-- a flag for each port says whether there is a path to it; where nothing is said there is one to each
abbrev pub path_by : Option (List Bool) → ℕ → Bool
path_by None port = true
path_by (Some flags) port = slice_index_or flags port false

-- the master has a path to the port
abbrev pub has_path : List (Option (List Bool)) → ℕ → ℕ → Bool
has_path paths master port = path_by (option_and_then (λ flags. flags) (slice_get paths master)) port

-- the flags of each master in their vectors
abbrev pub paths_in : List (Option (Vec Bool Global)) → List (Option (List Bool))
paths_in flags = map (option_map (λ (vector : Vec Bool Global). vector.items)) flags
