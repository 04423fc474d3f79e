-- The bits that a name means, among the signals that a dump declares. This project's own.
use Rattle.std.specs.Prelude.{ℕ, ◌+◌, ◌^◌, ◌&&◌, ◌||◌, ◌≤◌, nat_le, nat_lt, List, [], ◌∷◌, Option, None, Some, is_some, option_and_then, if◌then◌else◌}
use Rattle.std.specs.Borrow.{Bor}
use Rattle.std.specs.Int.{abs_diff}
use Rattle.std.specs.List.{filter_map}
use Rattle.std.specs.Str.{bytes_eq}
use Rattle.check_vcd.specs.Header.{Var, var_view}
use Rattle.check_vcd.specs.Range.{split_range}
use Rattle.check_vcd.specs.declared.range.Span.{Span}
use Rattle.check_signals.specs.declared.wires.Places.{Places}
use Rattle.check_signals.specs.declared.wires.Wire as code_wire

-- the places of a part among the digits of a signal, the leftmost index being at place 0; the part has to lie within the
-- signal, in the same order
abbrev pub places_in : Span → Span → Option Places
places_in span part =
    if (nat_le part.left span.left && nat_le part.right part.left && nat_le span.right part.right)
    || (nat_le span.left part.left && nat_le part.left part.right && nat_le part.right span.right)
    then (if nat_lt (abs_diff span.left part.right + 1) (2 ^ 64)
    then Some (record { from = abs_diff span.left part.left; to = abs_diff span.left part.right + 1 }) else None)
    else None

-- some bits of a signal, by the places of their digits
pub record Wire : Type 0 where
  pub var : Var
  pub places : Places

-- the bits that are at these places, if the signal has so many
abbrev pub wire_at : Var → Option Places → Option Wire
wire_at var None = None
wire_at var (Some places) =
    if nat_le places.from places.to && nat_le places.to var.width
    then Some (record { var = var; places = places }) else None

-- the bits of a signal that a range means, if the signal has them; all its bits if there is no range
abbrev pub wire_by : Option Span → Var → Option Wire
wire_by None var = Some (record { var = var; places = record { from = 0; to = var.width } })
wire_by (Some part) var = wire_at var (option_and_then (λ span. places_in span part) var.span)

-- the same of a signal that has this name
abbrev pub wire_of : List ℕ → Option Span → Var → Option Wire
wire_of name part var = if bytes_eq var.name name then wire_by part var else None

-- all wires that a name and a range mean
abbrev pub wires : List ℕ → Option Span → List Var → List Wire
wires name part vars = filter_map (wire_of name part) vars

-- the first of a list, if there is one
abbrev pub first_of : {A : Type 0} → List A → Option A
first_of [] = None
first_of (x ∷ xs) = Some x

-- the one of a wider signal, or else the first
abbrev pub wider : Wire → Wire → Wire
wider wire other = if nat_lt wire.var.width other.var.width then other else wire

-- the wire of the widest signal among this one and others; of several the first.
abbrev pub widest_from : Wire → List Wire → Wire
widest_from wire [] = wire
widest_from wire (other ∷ wires) = widest_from (wider wire other) wires

-- the wire of the widest signal, of several the first; none if there is no wire.
abbrev pub widest_of : List Wire → Option Wire
widest_of [] = None
widest_of (wire ∷ wires) = Some (widest_from wire wires)

-- what is looked for by a name that no signal has: the bits that the range at its end means of a signal of the rest of
-- the name; the whole name if it has no range.
abbrev pub cut_by : List ℕ → Option (List ℕ × Span) → List ℕ × Option Span
cut_by name None = (name, None)
cut_by name (Some parts) = (parts.0, Some parts.1)

-- what is looked for by a name: all bits of a signal of this name, if one is declared; or else, if the name ends in a
-- range, the bits that it means of a signal of the rest of the name.
abbrev pub sought : List Var → List ℕ → List ℕ × Option Span
sought vars name =
    if is_some (first_of (wires name None vars)) then (name, None) else cut_by name (split_range name)

-- the wires that a name means
abbrev pub wires_called : List Var → List ℕ → List Wire
wires_called vars name = wires (sought vars name).0 (sought vars name).1 vars

-- ---- what calls answer

-- the wire of a wider signal, or else the first, which may be absent.
abbrev pub wider_by : Option Wire → Wire → Wire
wider_by None other = other
wider_by (Some wire) other = wider wire other

-- the wire of the widest signal among these, beside one that may be absent.
abbrev pub widest_with : Option Wire → List Wire → Option Wire
widest_with None wires = widest_of wires
widest_with (Some wire) wires = Some (widest_from wire wires)

-- the signal has the bits of a wire
abbrev pub IsInside : code_wire.Wire → Type 0
IsInside wire = (wire.places.from ≤ wire.places.to) × (wire.places.to ≤ wire.var.now.width)

-- what contracts see of a wire.
abbrev pub wire_view : code_wire.Wire → Wire
wire_view wire = record { var = var_view wire.var.now; places = wire.places }

-- what contracts see of what is looked for.
abbrev pub sought_view : Bor (List ℕ) × Option Span → List ℕ × Option Span
sought_view parts = (parts.0.now, parts.1)
