-- What the edges of its domains say of a whole dump. This project's own.
use Rattle.std.specs.Prelude.{ℕ, Bool, not, List, [], ◌∷◌, Option, None, Some, option_map, if◌then◌else◌}
use Rattle.std.specs.List.{list_any}
use Rattle.check_samples.specs.Domain.{Domain, Watched}
use Rattle.check_samples.specs.Edges.{is_low_of}
use Rattle.check_samples.specs.declared.clock.Edge.{Edge}
use Rattle.check_samples.specs.declared.clock.Edge.TheVariants.{Rising, Falling}
use Rattle.check_samples.specs.declared.edge_fault.EdgeFault as code_fault
use Rattle.check_samples.specs.declared.edge_fault.EdgeFault.TheVariants as code

-- why the edges of a whole dump are none to take beats at: a clock has no edge, which rises or which falls; a reset is active
-- at every edge; or it is at every beat. Each says which clock or reset, by its name if it is not the system's own; and
-- whether the reset is active at 0
pub data EdgeFault : Type 0 where
  NeverRises : Option (List ℕ) → EdgeFault
  NeverFalls : Option (List ℕ) → EdgeFault
  ResetAtEdges : Option (List ℕ) → Bool → EdgeFault
  ResetAtBeats : Bool → EdgeFault

-- the clock of this name has no such edge.
abbrev pub never_by : Edge → Option (List ℕ) → EdgeFault
never_by Rising name = NeverRises name
never_by Falling name = NeverFalls name

-- the clock of a domain has no edge.
abbrev pub never_of : Domain → EdgeFault
never_of domain = never_by domain.clock.edge domain.clock_name

-- of the first domain in which there was no edge
abbrev pub first_never : List Watched → Option EdgeFault
first_never [] = None
first_never (one ∷ watched) = if not one.edges.any then Some (never_of one.domain) else first_never watched

-- of the first in which all edges were in reset
abbrev pub first_reset : List Watched → Option EdgeFault
first_reset [] = None
first_reset (one ∷ watched) =
    if not one.edges.outside then Some (ResetAtEdges one.domain.reset_name (is_low_of one.domain.reset))
    else first_reset watched

-- of the first in which valid and ready of a channel were 1 in reset
abbrev pub first_masked : List Watched → Option EdgeFault
first_masked [] = None
first_masked (one ∷ watched) =
    if one.edges.masked then Some (ResetAtBeats (is_low_of one.domain.reset)) else first_masked watched

-- a beat crossed in some domain
abbrev pub some_crossed : List Watched → Bool
some_crossed watched = list_any (λ one. one.edges.crossed) watched

-- the first fault, or else the second
abbrev pub or_else : Option EdgeFault → Option EdgeFault → Option EdgeFault
or_else None second = second
or_else (Some first) second = Some first

-- why the edges are none to take beats at: in some domain there is none; in some all are in reset; or no beat crossed at all,
-- and in reset valid and ready were 1
abbrev pub edge_fault : List Watched → Option EdgeFault
edge_fault watched =
    or_else (first_never watched) (or_else (first_reset watched)
    (if some_crossed watched then None else first_masked watched))

-- what contracts see
abbrev pub edge_fault_view : code_fault.EdgeFault → EdgeFault
edge_fault_view (code.NeverRises name) = NeverRises (option_map (λ name. name.items) name)
edge_fault_view (code.NeverFalls name) = NeverFalls (option_map (λ name. name.items) name)
edge_fault_view (code.ResetAtEdges name is_low) = ResetAtEdges (option_map (λ name. name.items) name) is_low
edge_fault_view (code.ResetAtBeats is_low) = ResetAtBeats is_low
