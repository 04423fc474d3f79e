-- The text of histories: `pP #K wW NAME ADDRESS SIZE [DATA] -> REPLY [denied] [DATA]`, one line for each request that a
-- port served; and the text of the slots' account: `free F held H`. This project's own.
use Rattle.std.specs.Prelude.{ℕ, ◌+◌, List, [], ◌∷◌, ◌++◌, codes}
use Rattle.std.specs.Fmt.{decimal}
use Rattle.tl_types.specs.Request.{Request}
use Rattle.tl_types.specs.Response.{Response}
use Rattle.tl_script.specs.Trace.{message_text}

-- the line of a port's request of this index, whose source is the wide one
unfoldable pub history_line : ℕ → ℕ → Request × Response → List ℕ
history_line port index (ask, reply) =
    codes "p" ++ decimal port ++ codes " #" ++ decimal index ++ codes " w" ++ decimal ask.source ++ codes " "
    ++ message_text ask reply ++ 10 ∷ []

-- the lines of a port's history from this index on
abbrev pub history_from : ℕ → ℕ → List (Request × Response) → List ℕ
history_from port index [] = []
history_from port index (entry ∷ history) = history_line port index entry ++ history_from port (index + 1) history

-- the lines of a port's history, from index 0 on
abbrev pub history_text : ℕ → List (Request × Response) → List ℕ
history_text port history = history_from port 0 history

-- the line of how many slots are free and how many are held
abbrev pub account_text : ℕ → ℕ → List ℕ
account_text free held = codes "free " ++ decimal free ++ codes " held " ++ decimal held ++ 10 ∷ []
