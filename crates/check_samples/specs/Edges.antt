-- What there was at the edges of a clock, and what that says of a whole dump. This project's own.
use Rattle.std.specs.Prelude.{Bool, true, false, ◌||◌, ◌&&◌, not, Option, None, Some, is_none}
use Rattle.check_samples.specs.declared.edges.Edges.{Edges}
use Rattle.check_samples.specs.declared.edges.Needs.{Needs}
use Rattle.check_samples.specs.declared.reset.Reset.{Reset}

-- there was none
abbrev pub no_edges : Edges
no_edges = record { any = false; outside = false; in_reset = false; crossed = false; masked = false }

-- there was one more: in reset or outside of it, and with valid and ready of some channel 1 or without
abbrev pub with_edge : Edges → Bool → Bool → Edges
with_edge edges active meets = record {
  any = true;
  outside = edges.outside || not active;
  in_reset = edges.in_reset || active;
  crossed = edges.crossed || (not active && meets);
  masked = edges.masked || (active && meets);
}

-- at an edge outside of reset: a valid has to be known if the reset was active at an earlier edge; a ready beside a valid
-- that is 1 has to be so too, and without a reset always
abbrev pub needs_of : Option Reset → Edges → Needs
needs_of reset edges = record { valid = edges.in_reset; ready = is_none reset || edges.in_reset }

-- whether a reset is active at 0; without one nothing is to be said of it
abbrev pub is_low_of : Option Reset → Bool
is_low_of None = true
is_low_of (Some reset) = reset.is_low
