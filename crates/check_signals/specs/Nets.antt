-- Nets that a dump declares bit by bit: each bit as a signal of one bit with an index. This project's own.
use Rattle.std.specs.Prelude.{ℕ, ◌+◌, ◌-◌, ◌==◌, ◌&&◌, Bool, not, nat_le, nat_lt, List, [], ◌∷◌, length, map, Option, None, Some, is_none, Result, Ok, Err, if◌then◌else◌}
use Rattle.std.specs.List.{filter_map, list_any, range_with_len}
use Rattle.std.specs.Str.{bytes_eq}
use Rattle.tl_text.specs.Reading.{◌>>=◌, each}
use Rattle.check_vcd.specs.Header.{Var}
use Rattle.check_vcd.specs.declared.range.Span.{Span}
use Rattle.check_signals.specs.Source.{Changing, SearchFault, Source, Twice, WantedSignal, constant_of, digit_in, is_left_out, left_out, parts_bits, signal_in, too_wide, width_of}
use Rattle.check_signals.specs.Wanted.{bits_fit, constant_bits, count_of}
use Rattle.check_signals.specs.Wires.{first_of, sought}
use Rattle.check_signals.specs.declared.nets.Bit as code_bit
use Rattle.check_signals.specs.declared.source.TheConstants.{MAX_WIDTH}

-- ---- bits

-- a bit that is declared alone: its index and its identifier
pub record Bit : Type 0 where
  pub index : ℕ
  pub code : List ℕ

-- the bit that a signal is, if it has one bit with an index
abbrev pub bit_by : Var → Option Span → Option Bit
bit_by var None = None
bit_by var (Some span) =
    if (var.width == 1) && (span.left == span.right) then Some (record { index = span.left; code = var.code }) else None

-- the bit that a signal is, if it has one bit with an index.
abbrev pub bit_of : Var → Option Bit
bit_of var = bit_by var var.span

-- the bit that a signal of this name is.
abbrev pub bit_called : List ℕ → Var → Option Bit
bit_called name var = if bytes_eq var.name name then bit_of var else None

-- the bits that are declared alone by this name, in the order of the header.
abbrev pub bits_called : List Var → List ℕ → List Bit
bits_called vars name = filter_map (bit_called name) vars

-- a signal of the name is no such bit
abbrev pub has_whole : List Var → List ℕ → Bool
has_whole vars name = list_any (λ var. bytes_eq var.name name && is_none (bit_of var)) vars

-- ---- a vector of them

-- the highest and the lowest index, with one bit more.
abbrev pub with_bit : Span → Bit → Span
with_bit span bit = record {
  left = if nat_lt span.left bit.index then bit.index else span.left;
  right = if nat_lt bit.index span.right then bit.index else span.right;
}

-- the highest and the lowest index of these bits and of a range.
abbrev pub span_from : Span → List Bit → Span
span_from span [] = span
span_from span (bit ∷ bits) = span_from (with_bit span bit) bits

-- the highest and the lowest index of these bits; none if there is none.
abbrev pub span_of : List Bit → Option Span
span_of [] = None
span_of (bit ∷ bits) = Some (span_from (record { left = bit.index; right = bit.index }) bits)

-- the identifiers of the bits with an index
abbrev pub codes_at : List Bit → ℕ → List (List ℕ)
codes_at bits index = filter_map (λ bit. if bit.index == index then Some bit.code else None) bits

-- the bit of an identifier: the lowest of its value, which has so many bits.
abbrev pub bit_within : WantedSignal → List ℕ → ℕ → Result Source SearchFault
bit_within asked code width =
    if nat_lt MAX_WIDTH width then Err (too_wide asked width MAX_WIDTH)
    else Ok (record { kept = Changing code width; from = width - 1; to = width })

-- the bit of an index, by the identifiers of the bits that have it: there has to be one, and no other.
abbrev pub bit_among : List Var → WantedSignal → List (List ℕ) → Option (List ℕ) → Result Source SearchFault
bit_among vars asked codes None = Err (Twice asked.owner asked.name)
bit_among vars asked codes (Some code) =
    if list_any (λ other. not (bytes_eq other code)) codes then Err (Twice asked.owner asked.name)
    else bit_within asked code (width_of vars code)

-- the bit of an index among these bits.
unfoldable pub bit_at : List Var → WantedSignal → List Bit → ℕ → Result Source SearchFault
bit_at vars asked bits index =
    let codes = codes_at bits index in bit_among vars asked codes (first_of codes)

-- so many indices, from this one down
abbrev pub indices_down : ℕ → ℕ → List ℕ
indices_down from count = map (λ step. from - step) (range_with_len 0 count)

-- as many bits as are wanted
abbrev pub bits_wanted : WantedSignal → List Source → Result (List Source) SearchFault
bits_wanted asked parts =
    if bits_fit asked.wanted (parts_bits parts) then Ok parts
    else Err (too_wide asked (parts_bits parts) (count_of asked.wanted))

-- the bits of these indices, from the highest to the lowest. No other signal may have the name; and where there are fewer
-- bits than indices there is a gap
abbrev pub vector_in : List Var → WantedSignal → List ℕ → List Bit → Span → Result (List Source) SearchFault
vector_in vars asked name bits span =
    if has_whole vars name then Err (Twice asked.owner asked.name)
    else if nat_lt (span.left - span.right) (length bits)
    then each (bit_at vars asked bits) (indices_down span.left (span.left - span.right + 1)) >>= bits_wanted asked
    else Err (Twice asked.owner asked.name)

-- ---- what a name finds

-- the indices that are meant, if they are several: all, or those of a range that lies within them
abbrev pub meant_of : Span → Option Span → Option Span
meant_of span None = if nat_lt span.right span.left then Some span else None
meant_of span (Some part) =
    if nat_lt part.right part.left && (nat_le part.left span.left && nat_le span.right part.right) then Some part else None

-- the indices that are meant, if they are several; none if no bits are declared alone.
abbrev pub meant : Option Span → Option Span → Option Span
meant None part = None
meant (Some span) part = meant_of span part

-- what one signal finds, as a list of one part.
abbrev pub lone : Result Source SearchFault → Result (List Source) SearchFault
lone found = found >>= (λ source. Ok (source ∷ []))

-- several bits that are declared alone are one vector; else a name means one signal
abbrev pub net_by : List Var → WantedSignal → List ℕ → List Bit → Option Span → Result (List Source) SearchFault
net_by vars asked name bits None = lone (signal_in vars asked)
net_by vars asked name bits (Some span) = vector_in vars asked name bits span

-- what a name finds: a vector of bits that are declared alone, the highest first, or one signal.
abbrev pub net_in : List Var → WantedSignal → Result (List Source) SearchFault
net_in vars asked =
    let parts = sought vars asked.name in
    let bits = bits_called vars parts.0 in net_by vars asked parts.0 bits (meant (span_of bits) parts.1)

-- what a name finds, unless it is this digit, which is a constant.
abbrev pub named_by : List Var → WantedSignal → Option ℕ → Result (List Source) SearchFault
named_by vars asked (Some digit) = Ok (constant_of digit (constant_bits asked.wanted) ∷ [])
named_by vars asked None = net_in vars asked

-- what a name finds: no bits if it says that the design has no such signal, a constant, or the bits of signals.
unfoldable pub named_in : List Var → WantedSignal → Result (List Source) SearchFault
named_in vars asked = if is_left_out asked then Ok (left_out ∷ []) else named_by vars asked (digit_in asked.name)

-- the clock and the reset are one part
abbrev pub one_of : WantedSignal → List Source → Result Source SearchFault
one_of asked (part ∷ []) = Ok part
one_of asked parts = Err (too_wide asked (parts_bits parts) (count_of asked.wanted))

-- ---- what calls answer

-- what contracts see of a bit that is declared alone.
abbrev pub bit_view : code_bit.Bit → Bit
bit_view bit = record { index = bit.index; code = bit.code.now }
