-- The text of traces: `mM sS NAME ADDRESS SIZE [DATA] -> REPLY [denied] [DATA] pP #K`, one line for each entry.
use Rattle.std.specs.Prelude.{ℕ, ◌+◌, Bool, true, false, List, [], ◌∷◌, ◌++◌, codes, map, flat_map, Option, Some}
use Rattle.std.specs.Fmt.{decimal, digits}
use Rattle.tl_types.specs.Request.{Request}
use Rattle.tl_types.specs.Response.{Response}
use Rattle.tl_types.specs.declared.trace.Entry.{Entry}
use Rattle.tl_script.specs.Data.{data_text}
use Rattle.tl_text.specs.Name.{operation_word, reply_word_of}

-- the word after a reply's name if it is denied
abbrev pub denied_text : Bool → List ℕ
denied_text true = codes " denied"
denied_text false = []

-- a space and DATA, if there are bytes
abbrev pub bytes_part : List (Option ℕ) → List ℕ
bytes_part [] = []
bytes_part (byte ∷ bytes) = codes " " ++ data_text (byte ∷ bytes)

-- `NAME ADDRESS SIZE`
abbrev pub target_text : List ℕ → ℕ → ℕ → List ℕ
target_text name address size = name ++ codes " 0x" ++ digits 16 false address ++ codes " " ++ decimal size

-- `NAME ADDRESS SIZE [DATA]`
abbrev pub ask_text : Request → List ℕ
ask_text ask = target_text (operation_word ask.op) ask.address ask.size ++ bytes_part ask.bytes

-- `REPLY [denied] [DATA]`
abbrev pub reply_text : Response → List ℕ
reply_text reply = reply_word_of reply.op ++ denied_text reply.denied
    ++ bytes_part (map (λ byte. Some byte) reply.bytes)

-- a request and its reply
unfoldable pub message_text : Request → Response → List ℕ
message_text ask reply = ask_text ask ++ codes " -> " ++ reply_text reply

-- a master and a source of its own
abbrev pub origin_text : ℕ → ℕ → List ℕ
origin_text master source = codes "m" ++ decimal master ++ codes " s" ++ decimal source ++ codes " "

-- the port that served a request, and its place in the port's list
abbrev pub place_text : ℕ → ℕ → List ℕ
place_text port index = codes " p" ++ decimal port ++ codes " #" ++ decimal index

-- the line of an entry of a master's trace
unfoldable pub trace_line : ℕ → Entry → List ℕ
trace_line master e =
    origin_text master e.ask.source ++ message_text e.ask e.reply ++ place_text e.port e.index ++ 10 ∷ []

-- the lines of one master
abbrev pub lines_of : ℕ → List Entry → List ℕ
lines_of master entries = flat_map (trace_line master) entries

-- the lines of each master in turn, where the first has this number
abbrev pub traces_from : ℕ → List (List Entry) → List ℕ
traces_from master [] = []
traces_from master (entries ∷ traces) = lines_of master entries ++ traces_from (master + 1) traces

-- the lines of all masters, from master 0 on
abbrev pub trace_text : List (List Entry) → List ℕ
trace_text traces = traces_from 0 traces
