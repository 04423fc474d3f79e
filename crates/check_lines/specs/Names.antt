-- The names of the links of a system. This project's own.
use Rattle.std.specs.Prelude.{ℕ, List, [], map, Option, None, option_map, unwrap_or, slice_get, String, string_bytes}
use Rattle.std.specs.declared.alloc.Global.{Global}
use Rattle.check_watch.specs.declared.beat.Link.{Link}
use Rattle.check_watch.specs.declared.beat.Link.TheVariants.{Master, Port}

-- the names of the masters and of the ports, if they have one, by their numbers
pub record NamesView : Type 0 where
  pub masters : List (Option (List ℕ))
  pub ports : List (Option (List ℕ))

-- the names of a system in which nothing has one
abbrev pub no_names : NamesView
no_names = record { masters = []; ports = [] }

-- names as contracts see them
abbrev pub texts_of : List (Option (String Global)) → List (Option (List ℕ))
texts_of names = map (λ (name : Option (String Global)). option_map string_bytes name) names

-- the name at a place: a number past the list has none
abbrev pub name_at : List (Option (List ℕ)) → ℕ → Option (List ℕ)
name_at names number = unwrap_or (slice_get names number) None

-- the name of a link's master or port, if it has one
abbrev pub name_of_link : NamesView → Link → Option (List ℕ)
name_of_link names (Master number) = name_at names.masters number
name_of_link names (Port number) = name_at names.ports number
