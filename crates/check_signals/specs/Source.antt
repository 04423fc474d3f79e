-- What a name of a system file finds among the signals that a dump declares. This project's own.
use Rattle.std.specs.Prelude.{◌≡◌, ◌≢◌, ℕ, ◌+◌, ◌-◌, Bool, ◌&&◌, not, nat_lt, List, [], ◌∷◌, ◌++◌, drop, length, take, map, codes, Option, None, Some, is_some, option_map, MatchResult, Result, Ok, Err, Vec, if◌then◌else◌}
use Rattle.std.specs.Global.{Global}
use Rattle.std.specs.List.{list_any}
use Rattle.std.specs.Str.{bytes_eq}
use Rattle.check_vcd.specs.Codes.{coded_in}
use Rattle.check_vcd.specs.Header.{Var}
use Rattle.check_vcd.specs.declared.codes.Coded.{Coded}
use Rattle.check_keys.specs.Nearest.{nearest}
use Rattle.check_samples.specs.Signal.{signal_name}
use Rattle.check_samples.specs.declared.signal.Signal.{Signal}
use Rattle.check_signals.specs.Prefixes.{has_name, is_handshake, with_bits}
use Rattle.check_signals.specs.Wanted.{bits_fit, count_of, may_be_absent, may_be_unfound}
use Rattle.check_signals.specs.Wires.{Wire, wires_called, widest_of}
use Rattle.check_signals.specs.declared.signal_fault.SignalOwner.{SignalOwner}
use Rattle.check_signals.specs.declared.signal_fault.SignalFault.{SignalFault}
use Rattle.check_signals.specs.declared.signal_fault.SignalFault.TheVariants as code_fault
use Rattle.check_signals.specs.declared.source.WantedSignal as code_asked
use Rattle.check_signals.specs.declared.source.Kept as code_kept
use Rattle.check_signals.specs.declared.source.Kept.TheVariants as kept
use Rattle.check_signals.specs.declared.source.Source as code_source
use Rattle.check_signals.specs.declared.source.TheConstants.{MAX_WIDTH}
use Rattle.check_signals.specs.declared.wanted.Wanted.{Wanted}

-- a signal that is looked for: whose it is, its name, which signal of a link it is if that stands behind a prefix, and how many
-- bits it has to have
pub record WantedSignal : Type 0 where
  pub owner : SignalOwner
  pub name : List ℕ
  pub behind : Option Signal
  pub wanted : Wanted

-- why it is not found: no signal has the name, and this one may be meant; two have it, and identifiers of their own; or it
-- has so many bits, and not those that are wanted. Or memory was refused, which no definition here says of anything
pub data SearchFault : Type 0 where
  NoSignal : SignalOwner → List ℕ → Option (List ℕ) → SearchFault
  Twice : SignalOwner → List ℕ → SearchFault
  Width : SignalOwner → List ℕ → ℕ → ℕ → SearchFault
  Refused : SearchFault

-- a value that is kept: that of an identifier, or a constant, whose bits all have this digit; and how many bits it has
pub data Kept : Type 0 where
  Changing : List ℕ → ℕ → Kept
  Constant : ℕ → ℕ → Kept

-- some digits of a kept value, by their places
pub record Source : Type 0 where
  pub kept : Kept
  pub from : ℕ
  pub to : ℕ

-- ---- a constant

-- the digit that a name is: `0` and `1` are constants
abbrev pub digit_in : List ℕ → Option ℕ
digit_in name = if bytes_eq name (codes "0") then Some 48 else if bytes_eq name (codes "1") then Some 49 else None

-- all bits of a constant of so many
abbrev pub constant_of : ℕ → ℕ → Source
constant_of digit count = record { kept = Constant digit count; from = 0; to = count }

-- no bits of a constant: a design has no such signal
abbrev pub left_out : Source
left_out = record { kept = Constant 48 1; from = 0; to = 0 }

-- the name is `-`, which says so of a signal that may be absent
abbrev pub is_left_out : WantedSignal → Bool
is_left_out asked = may_be_absent asked.wanted && bytes_eq asked.name (codes "-")

-- ---- a signal

-- how many bits the values of an identifier have, by what is known of it; 0 if nothing is.
abbrev pub width_by : Option Coded → ℕ
width_by None = 0
width_by (Some coded) = coded.width

-- how many bits the values of an identifier have: those of the widest signal that has it.
abbrev pub width_of : List Var → List ℕ → ℕ
width_of vars code = width_by (coded_in vars code)

-- the name that `bits = true` looks for, in the place of the specification's name behind a prefix
abbrev pub bundled_name : List ℕ → Signal → Option (List ℕ)
bundled_name name which =
    let split = length name - length (signal_name which) in
    if not (is_handshake which) && bytes_eq (drop split name) (signal_name which)
    then Some (take split name ++ with_bits (signal_name which)) else None

-- the same of a name that stands behind a prefix or not; none if it does not.
abbrev pub bundled_if_any : List ℕ → Option Signal → Option (List ℕ)
bundled_if_any name None = None
bundled_if_any name (Some which) = bundled_name name which

-- a name, if a signal has it
abbrev pub if_declared : List Var → Option (List ℕ) → Option (List ℕ)
if_declared vars None = None
if_declared vars (Some name) = if has_name vars name then Some name else None

-- what may have been meant by a name that no signal has: the name that `bits = true` would find, or else the nearest name
abbrev pub or_nearest : List Var → List ℕ → Option (List ℕ) → Option (List ℕ)
or_nearest vars name None = nearest name (map (λ var. var.name) vars)
or_nearest vars name (Some bundled) = Some bundled

-- the name that may be meant by one that no signal has: that in the bundle `bits` if a signal has it, and else the
-- nearest.
abbrev pub near_in : List Var → WantedSignal → Option (List ℕ)
near_in vars asked = or_nearest vars asked.name (if_declared vars (bundled_if_any asked.name asked.behind))

-- no signal has the name that is looked for.
abbrev pub missing : List Var → WantedSignal → SearchFault
missing vars asked = NoSignal asked.owner asked.name (near_in vars asked)

-- a signal has so many bits, and so many are wanted, or are the most.
abbrev pub too_wide : WantedSignal → ℕ → ℕ → SearchFault
too_wide asked bits wanted = Width asked.owner asked.name bits wanted

-- the bits of a wire within the values of its identifier, whose lowest bits are the signal
abbrev pub within : List Var → WantedSignal → Wire → ℕ → Result Source SearchFault
within vars asked wire width =
    if nat_lt MAX_WIDTH width then Err (too_wide asked width MAX_WIDTH)
    else if nat_lt width wire.var.width then Err (missing vars asked)
    else Ok (record {
      kept = Changing wire.var.code width;
      from = (width - wire.var.width) + wire.places.from;
      to = (width - wire.var.width) + wire.places.to;
    })

-- a wire that has as many bits as are wanted
abbrev pub measured : List Var → WantedSignal → Wire → Result Source SearchFault
measured vars asked wire =
    let bits = wire.places.to - wire.places.from in
    if bits_fit asked.wanted bits then within vars asked wire (width_of vars wire.var.code)
    else Err (too_wide asked bits (count_of asked.wanted))

-- no signal has the name: one that a prefix need not find is left out
abbrev pub may_lack : WantedSignal → Bool
may_lack asked = is_some asked.behind && may_be_unfound asked.wanted

-- what a name finds that no signal has: no bits, if it stands behind a prefix and the design may lack the signal; else it
-- is a fault.
abbrev pub unfound : List Var → WantedSignal → Result Source SearchFault
unfound vars asked = if may_lack asked then Ok left_out else Err (missing vars asked)

-- the widest of the wires that a name means: all of them have its identifier
abbrev pub alone : List Var → WantedSignal → List Wire → Option Wire → Result Source SearchFault
alone vars asked wires None = unfound vars asked
alone vars asked wires (Some wire) =
    if list_any (λ other. not (bytes_eq other.var.code wire.var.code)) wires then Err (Twice asked.owner asked.name)
    else measured vars asked wire

-- what a name finds: the bits of the widest signal that it means. It is a fault if another signal that it means has
-- another identifier, or if the bits are not as many as are wanted.
abbrev pub signal_in : List Var → WantedSignal → Result Source SearchFault
signal_in vars asked =
    let wires = wires_called vars asked.name in alone vars asked wires (widest_of wires)

-- ---- parts

-- how many bits parts have together
abbrev pub parts_bits : List Source → ℕ
parts_bits [] = 0
parts_bits (part ∷ parts) = (part.to - part.from) + parts_bits parts

-- ---- what calls answer

-- what contracts see of a signal that is looked for.
abbrev pub asked_view : code_asked.WantedSignal → WantedSignal
asked_view asked =
    record { owner = asked.owner; name = asked.name.now; behind = asked.behind; wanted = asked.wanted }

-- what contracts see of a value that is kept.
abbrev pub kept_view : code_kept.Kept → Kept
kept_view (kept.Signal code width) = Changing code.now width
kept_view (kept.Constant digit width) = Constant digit width

-- what contracts see of some digits of a value.
abbrev pub source_view : code_source.Source → Source
source_view source = record { kept = kept_view source.kept; from = source.from; to = source.to }

-- the same of several, one after the other.
abbrev pub sources_view : Vec code_source.Source Global → List Source
sources_view parts = map source_view parts.items

-- a fault, with its texts as lists
abbrev pub fault_view : SignalFault → SearchFault
fault_view (code_fault.NoSignal owner name near) = NoSignal owner name.items (option_map (λ near. near.items) near)
fault_view (code_fault.Twice owner name) = Twice owner name.items
fault_view (code_fault.Width owner name bits wanted) = Width owner name.items bits wanted
fault_view code_fault.Memory = Refused

-- a call answers what the definition finds, or its fault, unless memory ran out
abbrev pub Finds : {X Y : Type 0} → (X → Y) → Result X SignalFault → Result Y SearchFault → Type 0
Finds view result found =
    MatchResult result (λ x. found ≡ Ok (view x)) (λ e. e ≢ code_fault.Memory → found ≡ Err (fault_view e))
