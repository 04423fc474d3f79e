-- The sources at a port's link that has numbers of its own, as the system numbers them. The standard leaves sources to the
-- system. This project's own.
use Rattle.std.specs.Prelude.{ℕ, ◌+◌, ◌*◌, ◌-◌, ◌/◌, ◌%◌, ◌==◌, ◌&&◌, nat_le, nat_lt, Bool, List, [], ◌∷◌, Option, None, Some, map, option_and_then, option_map, unwrap_or, if◌then◌else◌, slice_index_or}
use Rattle.tl_map.specs.declared.limits.TheConstants.{MAX_WIDE}
use Rattle.tl_map.specs.declared.owners.Owner.{Owner}
use Rattle.check_watch.specs.Plan.{Sighting}
use Rattle.check_watch.specs.declared.beat.Beat.{Beat}
use Rattle.check_watch.specs.declared.beat.Beat.TheVariants.{A, D}
use Rattle.check_watch.specs.declared.beat.Link.{Link}
use Rattle.check_watch.specs.declared.beat.Link.TheVariants.{Master, Port}
use Rattle.check_rows.specs.Row.{SeenRow}
use Rattle.check_rows.specs.declared.port_numbers.PortNumbers as code_numbers
use Rattle.check_rows.specs.declared.port_numbers.SourcePlace.{SourcePlace}

-- the numbers of a port's link: the places of masters, and the source of the system for all others, which nobody has
pub record PortNumbers : Type 0 where
  pub places : List SourcePlace
  pub nobody : ℕ

-- ---- one source

-- the source of an owner that has this wide source, if one has
abbrev pub own_source : Owner → ℕ → Option ℕ
own_source owner wide =
    if nat_le owner.first wide && (nat_lt 0 owner.stride
    && (((wide - owner.first) % owner.stride == 0) && nat_lt ((wide - owner.first) / owner.stride) owner.count))
    then Some ((wide - owner.first) / owner.stride) else None

-- the wide source of an owner's source, if it is none too large
abbrev pub wide_source : Owner → ℕ → Option ℕ
wide_source owner own =
    if nat_le (owner.first + owner.stride * own) MAX_WIDE then Some (owner.first + owner.stride * own) else None

-- the system's source for a source at the link, if it is one of this master's
abbrev pub source_in : SourcePlace → ℕ → Option ℕ
source_in place source = option_and_then (wide_source place.there) (own_source place.here source)

-- the first, or else the second
abbrev pub first_source : Option ℕ → Option ℕ → Option ℕ
first_source (Some source) others = Some source
first_source None others = others

-- the same of the first master whose it is
abbrev pub source_among : List SourcePlace → ℕ → Option ℕ
source_among [] source = None
source_among (place ∷ places) source = first_source (source_in place source) (source_among places source)

-- the system's source for a source at a link with these numbers
abbrev pub system_source : PortNumbers → ℕ → ℕ
system_source numbers source = unwrap_or (source_among numbers.places source) numbers.nobody

-- ---- what is seen at links

-- the numbers of a link, if it has any of its own: some ports' links have
abbrev pub numbers_at : List (Option PortNumbers) → Link → Option PortNumbers
numbers_at ports (Master m) = None
numbers_at ports (Port p) = slice_index_or ports p None

-- a beat with the system's source in place of its own
abbrev pub numbered_beat : Option PortNumbers → Beat → Beat
numbered_beat None beat = beat
numbered_beat (Some numbers) (A ask) = A (record ask { source = system_source numbers ask.source })
numbered_beat (Some numbers) (D reply) = D (record reply { source = system_source numbers reply.source })

-- what was seen, with the system's source in place of the link's own.
abbrev pub numbered : List (Option PortNumbers) → Sighting → Sighting
numbered ports x = record x { beat = numbered_beat (numbers_at ports x.link) x.beat }

-- a row as it is judged
abbrev pub numbered_row : List (Option PortNumbers) → SeenRow → SeenRow
numbered_row ports row = record row { sighting = numbered ports row.sighting }

-- ---- what contracts see

-- what contracts see of the numbers of a port's link.
abbrev pub numbers_view : code_numbers.PortNumbers → PortNumbers
numbers_view numbers = record { places = numbers.places.items; nobody = numbers.nobody }

-- the same of all ports, in order; some have none.
abbrev pub numbers_in : List (Option (code_numbers.PortNumbers)) → List (Option PortNumbers)
numbers_in numbers = map (option_map numbers_view) numbers
