-- What says when beats cross. This project's own.
use Rattle.std.specs.Prelude.{ℕ, List, Option, option_map}
use Rattle.check_samples.specs.declared.clock.Clock.{Clock}
use Rattle.check_samples.specs.declared.domain.Domain as code_domain
use Rattle.check_samples.specs.declared.edges.Edges.{Edges}
use Rattle.check_samples.specs.declared.reset.Reset.{Reset}
use Rattle.check_samples.specs.declared.watched.Watched as code_watched
use Rattle.check_samples.specs.Edges.{no_edges}

-- a clock and the reset beside it, which there may be none of; and the name of each, if it is not the system's own
pub record Domain : Type 0 where
  pub clock : Clock
  pub clock_name : Option (List ℕ)
  pub reset : Option Reset
  pub reset_name : Option (List ℕ)

-- a domain, and what there was at the edges of its clock at the times that are over
pub record Watched : Type 0 where
  pub domain : Domain
  pub edges : Edges

-- before the first time there was none
abbrev pub unwatched : Domain → Watched
unwatched domain = record { domain = domain; edges = no_edges }

-- what contracts see

-- what contracts see of a domain.
abbrev pub domain_view : code_domain.Domain → Domain
domain_view domain = record {
  clock = domain.clock;
  clock_name = option_map (λ name. name.items) domain.clock_name;
  reset = domain.reset;
  reset_name = option_map (λ name. name.items) domain.reset_name;
}

-- what contracts see of a domain with its edges.
abbrev pub watched_view : code_watched.Watched → Watched
watched_view watched = record { domain = domain_view watched.domain; edges = watched.edges }
