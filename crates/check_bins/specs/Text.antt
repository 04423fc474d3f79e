-- The text of what was covered: `coverage 2`, and a line for each bin that occurred, in the order of bins, with its words
-- and its count. This project's own.
use Rattle.std.specs.Prelude.{◌≡◌, ℕ, ◌<◌, Bool, nat_lt, if◌then◌else◌, List, ◌++◌, All, codes, flat_map, unwrap_or}
use Rattle.std.specs.Fmt.{decimal}
use Rattle.std.specs.BTreeMap.{is_at}
use Rattle.std.specs.List.Sorted.{IsStrictlySortedBy}
use Rattle.std.specs.Map.{keys_of, lookup, values_of}
use Rattle.tl_text.specs.Name.{operation_word}
use Rattle.check_beats.specs.Message.{op_of}
use Rattle.check_bins.specs.declared.bin.Bin.{Bin}
use Rattle.check_bins.specs.declared.bin.Bin.TheVariants.{Asked, Answered, Beats, Mask, InFlight, AtPort, Overtook, Again, Contested, Source, Range, Edge, Latency, Gap, Refused, Lane, After, Corrupt}
use Rattle.check_bins.specs.declared.bin.Access.{Access}
use Rattle.check_bins.specs.declared.bin.Access.TheVariants as access
use Rattle.check_bins.specs.declared.bin.Cause.{Cause}
use Rattle.check_bins.specs.declared.bin.Cause.TheVariants.{Nowhere, NoPath, Unaligned, Beyond, Unserved}
use Rattle.check_bins.specs.declared.bin.CountedChannel.{CountedChannel}
use Rattle.check_bins.specs.declared.bin.CountedChannel.TheVariants as channel
use Rattle.check_bins.specs.declared.bin.Operation.{Operation}
use Rattle.check_bins.specs.declared.bin.Pair.{Pair}
use Rattle.check_bins.specs.declared.bin.Shape.{Shape}
use Rattle.check_bins.specs.declared.bin.Shape.TheVariants.{Empty, Full, One, Hole, Low, High, Even, Odd, Other}
use Rattle.check_bins.specs.Counting.{bin_cmp, capped, how_often}

-- a master
abbrev pub master_text : ℕ → List ℕ
master_text master = codes " m" ++ decimal master

-- a port of a system of so many; the error port comes after them
abbrev pub port_text : ℕ → ℕ → List ℕ
port_text ports port = if nat_lt port ports then codes " p" ++ decimal port else codes " error"

-- the words of a master and a port
abbrev pub pair_text : ℕ → Pair → List ℕ
pair_text ports pair = master_text pair.master ++ port_text ports pair.port

-- an operation by its name, and its size
abbrev pub operation_text : Operation → List ℕ
operation_text operation =
    codes " " ++ operation_word (op_of operation.opcode operation.param) ++ codes " " ++ decimal operation.size

-- the word of a shape
abbrev pub shape_text : Shape → List ℕ
shape_text Empty = codes " none"
shape_text Full = codes " all"
shape_text One = codes " one"
shape_text Hole = codes " hole"
shape_text Low = codes " low"
shape_text High = codes " high"
shape_text Even = codes " even"
shape_text Odd = codes " odd"
shape_text Other = codes " other"

-- the word of a channel
abbrev pub channel_text : CountedChannel → List ℕ
channel_text channel.A = codes " A "
channel_text channel.D = codes " D "

-- the word of an access
abbrev pub access_text : Access → List ℕ
access_text access.Read = codes " read"
access_text access.Write = codes " write"
access_text access.Atomic = codes " atomic"
access_text access.Hint = codes " hint"

-- why a reply is denied
abbrev pub cause_text : Cause → List ℕ
cause_text Nowhere = codes " nowhere"
cause_text NoPath = codes " no_path"
cause_text Unaligned = codes " unaligned"
cause_text Beyond = codes " beyond"
cause_text Unserved = codes " unserved"

-- an end of a range
abbrev pub edge_text : Bool → List ℕ
edge_text is_last = if is_last then codes " last" else codes " first"

-- the words of a bin of a system of so many ports
unfoldable pub bin_text : ℕ → Bin → List ℕ
bin_text ports (Asked pair operation is_unaligned) =
    codes "asked" ++ pair_text ports pair ++ operation_text operation
    ++ (if is_unaligned then codes " unaligned" else codes " aligned")
bin_text ports (Answered pair operation is_denied) =
    codes "answered" ++ pair_text ports pair ++ operation_text operation
    ++ (if is_denied then codes " denied" else codes " given")
bin_text ports (Beats pair channel beats) =
    codes "beats" ++ pair_text ports pair ++ channel_text channel ++ decimal beats
bin_text ports (Mask pair size shape) =
    codes "mask" ++ pair_text ports pair ++ codes " " ++ decimal size ++ shape_text shape
bin_text ports (InFlight master requests) = codes "in_flight" ++ master_text master ++ codes " " ++ decimal requests
bin_text ports (AtPort port requests) = codes "at_port" ++ port_text ports port ++ codes " " ++ decimal requests
bin_text ports (Overtook pair elsewhere) =
    codes "overtook" ++ pair_text ports pair ++ (if elsewhere then codes " other" else codes " same")
bin_text ports (Again master least) = codes "again" ++ master_text master ++ codes " " ++ decimal least
bin_text ports (Contested port) = codes "contested" ++ port_text ports port
bin_text ports (Source master source) = codes "source" ++ master_text master ++ codes " " ++ decimal source
bin_text ports (Range port number) = codes "range" ++ port_text ports port ++ codes " " ++ decimal number
bin_text ports (Edge port number is_last) =
    codes "edge" ++ port_text ports port ++ codes " " ++ decimal number ++ edge_text is_last
bin_text ports (Latency port least) = codes "latency" ++ port_text ports port ++ codes " " ++ decimal least
bin_text ports (Gap pair channel least) =
    codes "gap" ++ pair_text ports pair ++ channel_text channel ++ decimal least
bin_text ports (Refused port why) = codes "refused" ++ port_text ports port ++ cause_text why
bin_text ports (Lane master size offset) =
    codes "lane" ++ master_text master ++ codes " " ++ decimal size ++ codes " " ++ decimal offset
bin_text ports (After port before here) =
    codes "after" ++ port_text ports port ++ access_text before ++ access_text here
bin_text ports (Corrupt pair operation is_reply) =
    codes "corrupt" ++ pair_text ports pair ++ operation_text operation
    ++ (if is_reply then codes " answered" else codes " asked")

-- its line, with its count
abbrev pub bin_line : ℕ → Bin × ℕ → List ℕ
bin_line ports entry = bin_text ports entry.0 ++ codes " " ++ decimal entry.1 ++ codes "\n"

-- the whole text: its head line, and a line for each bin
abbrev pub coverage_text : ℕ → List (Bin × ℕ) → List ℕ
coverage_text ports entries = codes "coverage 2\n" ++ flat_map (bin_line ports) entries

-- a text grew by the text of what was covered of a system of so many ports, where all these bins were added: those that
-- are among them have their lines, in order, and no others; of each bin the text tells how often it is among them, up to
-- 2 ^ 64 - 1
pub record TellsCoverage (ports : ℕ) (all : List Bin) (old new : List ℕ) : Type 0 where
  pub entries : List (Bin × ℕ)
  pub is : new ≡ old ++ coverage_text ports entries
  pub sorted : IsStrictlySortedBy bin_cmp (keys_of entries)
  pub some : All (λ (n : ℕ). 0 < n) (values_of entries)
  pub counts : (bin : Bin) → unwrap_or (lookup (is_at (bin_cmp bin)) entries) 0 ≡ capped (how_often bin all)
