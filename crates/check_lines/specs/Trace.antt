-- The lines of replies that were captured: `mM sS NAME ADDRESS SIZE [DATA] -> REPLY [denied] [DATA] pP #K`, as traces of
-- tlx spell an entry, and `xx` for an unknown byte of the reply and for a spoiled one of the request. This project's own.
use Rattle.std.specs.Prelude.{◌≡◌, ◌⊎◌, ℕ, List, [], ◌∷◌, ◌++◌, codes}
use Rattle.tl_map.specs.Owner.{IsWideSource}
use Rattle.tl_map.specs.declared.owners.Owner.{Owner}
use Rattle.tl_script.specs.Trace.{origin_text, place_text}
use Rattle.check_watch.specs.declared.beat.Link.{Link}
use Rattle.check_watch.specs.declared.beat.Link.TheVariants.{Master, Port}
use Rattle.check_watch.specs.declared.seen.SeenEntry.{SeenEntry}
use Rattle.check_lines.specs.Reply.{pattern_text}
use Rattle.check_lines.specs.Sent.{sent_text}

-- a request and the reply that was captured
abbrev pub exchange_text : SeenEntry → List ℕ
exchange_text entry = sent_text entry.sent ++ codes " -> " ++ pattern_text entry.reply

-- the line of a request of a master from this source of its own, with the reply that was captured
unfoldable pub entry_line : ℕ → ℕ → SeenEntry → List ℕ
entry_line master source entry =
    origin_text master source ++ exchange_text entry ++ place_text entry.port entry.index ++ 10 ∷ []

-- the line of an entry whose reply was seen at a link, to this source of the link. At a port's link that is a wide
-- source, and the line has the master that owns it and the master's own source
abbrev pub IsLine : List Owner → Link → ℕ → SeenEntry → List ℕ → Type 0
IsLine owners (Master m) source entry line = line ≡ entry_line m source entry
IsLine owners (Port p) source entry line =
    (master : ℕ) × (own : ℕ) × IsWideSource owners master own source × (line ≡ entry_line master own entry)

-- the source of a link is somebody's: at a port's link it is a wide source that some master has
abbrev pub HasOwner : List Owner → Link → ℕ → Type 0
HasOwner owners (Master m) source = Unit {0}
HasOwner owners (Port p) source = (master : ℕ) × (own : ℕ) × IsWideSource owners master own source

-- a text grew by the line of an entry, or by nothing if its source is nobody's
abbrev pub AppendsLine : List Owner → Link → ℕ → SeenEntry → List ℕ → List ℕ → Type 0
AppendsLine owners link source entry old new =
    ((line : List ℕ) × (new ≡ old ++ line) × IsLine owners link source entry line)
    ⊎ ((new ≡ old) × (HasOwner owners link source → ⊥))
