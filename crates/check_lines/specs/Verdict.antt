-- The lines of verdicts: `lawful: ROWS rows, ASKED requests, ANSWERED answered`, `unlawful: line N, time T, LINK
-- CHANNEL: FAULT`, `incomplete: COUNT requests without reply, the first: line N, time T, mM sS NAME ADDRESS SIZE` and
-- `empty: no request`. This project's own.
use Rattle.std.specs.Prelude.{ℕ, List, [], ◌∷◌, ◌++◌, codes, unwrap_or}
use Rattle.std.specs.Fmt.{decimal}
use Rattle.check_cells.specs.Pattern.{Pattern}
use Rattle.check_beats.specs.declared.fault.FormFault.{FormFault}
use Rattle.check_beats.specs.declared.fault.FormFault.TheVariants as form
use Rattle.check_watch.specs.declared.beat.Beat.{Beat}
use Rattle.check_watch.specs.declared.beat.Beat.TheVariants.{A, D}
use Rattle.check_watch.specs.declared.beat.Link.{Link}
use Rattle.check_watch.specs.declared.beat.Link.TheVariants.{Master, Port}
use Rattle.check_watch.specs.declared.fault.Fault.{Fault}
use Rattle.check_watch.specs.declared.fault.Fault.TheVariants.{Form, NoSuchSource, SourceBusy, WrongPort, NoRequest, EarlyReply, OutOfOrder, WrongSize, WrongOpcode, UnknownData, NotSent, NotGiven, WrongReply}
use Rattle.check_lines.specs.declared.breach.Breach.{Breach}
use Rattle.check_lines.specs.declared.breach.Breach.TheVariants as breach
use Rattle.check_lines.specs.Names.{NamesView, name_of_link}
use Rattle.check_lines.specs.Reply.{pattern_text}
use Rattle.tl_script.specs.Trace.{target_text}
use Rattle.check_lines.specs.Target.{name_text}
use Rattle.check_lines.specs.declared.verdict.VerdictCounts.{VerdictCounts}
use Rattle.check_rows.specs.declared.row.Row.{Row}
use Rattle.check_rows.specs.declared.request.Began.{Began}
use Rattle.check_rows.specs.declared.request.Left.{Left}
use Rattle.check_watch.specs.declared.pending.Origin.{Origin}

-- a master or a port by its letter and its number
unfoldable pub number_text : Link → List ℕ
number_text (Master number) = codes "m" ++ decimal number
number_text (Port number) = codes "p" ++ decimal number

-- a link by the name of its master or port, if there is one, else by the letter and the number
abbrev pub link_text : NamesView → Link → List ℕ
link_text names link = unwrap_or (name_of_link names link) (number_text link)

-- the channel of a beat, with a space before it and a colon and a space behind.
unfoldable pub channel_text : Beat → List ℕ
channel_text (A beat) = codes " A: "
channel_text (D beat) = codes " D: "

-- the words for a beat that is no beat of a lawful message.
unfoldable pub form_text : FormFault → List ℕ
form_text form.Changed = codes "field changed"
form_text form.Opcode = codes "unknown opcode"
form_text form.Param = codes "wrong param"
form_text form.Size = codes "size out of range"
form_text form.Unaligned = codes "unaligned address"
form_text form.Mask = codes "wrong mask"
form_text form.CorruptFlag = codes "wrong corrupt flag"
form_text form.UnknownData = codes "unknown data"

-- the reply that is expected, and the one that was captured
unfoldable pub wrong_text : Pattern → Pattern → List ℕ
wrong_text expected captured =
    codes "wrong reply: expected " ++ pattern_text expected ++ codes ", captured " ++ pattern_text captured

-- the words for the fault of a beat, which end the line of an unlawful capture.
unfoldable pub fault_text : Fault → List ℕ
fault_text (Form fault) = form_text fault
fault_text NoSuchSource = codes "no such source"
fault_text SourceBusy = codes "source in flight"
fault_text WrongPort = codes "not this port's address"
fault_text NoRequest = codes "reply without request"
fault_text EarlyReply = codes "reply before its request ended"
fault_text OutOfOrder = codes "reply out of order"
fault_text WrongSize = codes "size of another request"
fault_text WrongOpcode = codes "opcode of another operation"
fault_text UnknownData = codes "unknown data"
fault_text NotSent = codes "no master sent this request"
fault_text NotGiven = codes "the port gave no such reply"
fault_text (WrongReply expected captured) = wrong_text expected captured

-- the line of a lawful capture: how many rows were judged, how many requests have ended, and how many replies.
unfoldable pub lawful_line : VerdictCounts → List ℕ
lawful_line counts =
    codes "lawful: " ++ decimal counts.rows ++ codes " rows, " ++ decimal counts.requests ++ codes " requests, "
    ++ decimal counts.answered ++ codes " answered"
    ++ 10 ∷ []

-- a capture without a request
unfoldable pub empty_line : List ℕ
empty_line = codes "empty: no request" ++ 10 ∷ []

-- where a capture is not lawful: the line and the time of a row, its link and its channel
unfoldable pub unlawful_text : NamesView → Row → List ℕ
unlawful_text names row =
    codes "unlawful: line " ++ decimal row.line ++ codes ", time " ++ decimal row.time ++ codes ", "
    ++ link_text names row.link
    ++ channel_text row.beat

-- the beat of a row has this fault
unfoldable pub unlawful_line : NamesView → Row → Fault → List ℕ
unlawful_line names row fault = unlawful_text names row ++ fault_text fault ++ 10 ∷ []

-- a row breaks the rules, by the time that a reply took, in these words
unfoldable pub timed_line : NamesView → Row → List ℕ → List ℕ
timed_line names row words = unlawful_text names row ++ words ++ 10 ∷ []

-- a row breaks the rules so
abbrev pub breach_line : NamesView → Row → Breach → List ℕ
breach_line names row (breach.Beat fault) = unlawful_line names row fault
breach_line names row breach.LateReply = timed_line names row (codes "late reply")
breach_line names row breach.NoReply = timed_line names row (codes "no reply in time")

-- what a beat of a request asks for, after a space; a beat of a reply asks for nothing
abbrev pub asked_text : Beat → List ℕ
asked_text (A ask) = codes " " ++ target_text (name_text ask.opcode ask.param) ask.address ask.size
asked_text (D reply) = []

-- where and when a request began
abbrev pub began_text : Began → List ℕ
began_text began = codes " requests without reply, the first: line " ++ decimal began.line ++ codes ", time " ++ decimal began.time

-- whose it is
abbrev pub owner_text : Origin → List ℕ
owner_text origin = codes ", m" ++ decimal origin.master ++ codes " s" ++ decimal origin.source

-- so many requests have no whole reply, and the oldest
unfoldable pub incomplete_line : Left → List ℕ
incomplete_line left =
    codes "incomplete: " ++ decimal left.requests ++ began_text left.first.began ++ owner_text left.first.origin
    ++ asked_text left.first.began.beat
    ++ 10 ∷ []
